-- Laws of specs/Read.antt. What is written is read: the fields of each head, keys, command keys and values, entries, items, a shard. Every law holds whatever follows
-- (Y). Assumes of each number that its field holds it.
use Rattle.std.specs.Prelude.{◌≡◌, ℕ, ◌+◌, ◌-◌, ◌^◌, ◌<◌, drop}
use Rattle.std.proofs.Math.Path.{refl}
use Rattle.std.proofs.Common.{ap, arith, length-append, drop_at}
use mathlib.Core.List.{List, [], ◌∷◌, ◌++◌, append_assoc}
use Rattle.std.proofs.Math.ListN.{length}
use Rattle.buffer.specs.Same.{Bytes}
use Rattle.buffer.specs.Field.{le, le32, le64, read_le, read32, read64}
use Rattle.buffer.specs.FieldLaws.{length-le, read_at}
use Rattle.buffer.specs.Part.{part}
use Rattle.buffer.specs.PartLaws.{part_at}
use Rattle.book.specs.Book.{Entry, Item, Row, entry_bytes, row_bytes}
use Rattle.arena.specs.Layout.{zeros, head, item_head, enc_entry, enc_entries, enc_item, enc_items, enc_shard}
use Rattle.arena.specs.Decode.{read_entry, read_entries, read_item, read_items, read_shard}
use Rattle.arena.proofs.Length.{length-head, length-item_head, length-entry, length-item}
use Rattle.arena.specs.Read.{Small, Smalls}

-- a field of some bytes that are given in their pieces
field : (w : ℕ) (s X Z : Bytes) (n at : ℕ) → s ≡ X ++ (le w n ++ Z) → length X ≡ at → n < 256 ^ w → read_le w s at ≡ n
field w s X Z n at e l h = rw e (read_at w X Z n at l h)

-- ---- the head of an entry or a shard

module _ (a b : ℕ) (Y : Bytes) where
  pub head_first : a < 256 ^ 4 → read32 (head a b ++ Y) 0 ≡ a
  unfolding head
  head_first h = field 4 (head a b ++ Y) [] (le32 b ++ (zeros 8 ++ Y)) a 0 (simp append_assoc) refl h

  pub head-second : b < 256 ^ 4 → read32 (head a b ++ Y) 4 ≡ b
  unfolding head
  head-second h = field 4 (head a b ++ Y) (le32 a) (zeros 8 ++ Y) b 4 (simp append_assoc) (length-le 4 a) h

-- ---- the head of an item

module _ (key count epoch expiry bytes : ℕ) (Y : Bytes) where
  abbrev its : Bytes
  its = item_head key count epoch expiry bytes ++ Y

  pub head-key : key < 256 ^ 4 → read32 its 0 ≡ key
  unfolding item_head
  head-key h = field 4 its [] (le32 count ++ (le64 epoch ++ (le64 expiry ++ (le32 bytes ++ (zeros 4 ++ Y))))) key 0 (simp append_assoc) refl h

  pub head-count : count < 256 ^ 4 → read32 its 4 ≡ count
  unfolding item_head
  head-count h =
      field 4 its (le32 key) (le64 epoch ++ (le64 expiry ++ (le32 bytes ++ (zeros 4 ++ Y)))) count 4 (simp append_assoc) (length-le 4 key) h

  pub head-epoch : epoch < 256 ^ 8 → read64 its 8 ≡ epoch
  unfolding item_head
  head-epoch h =
      field 8 its (le32 key ++ le32 count) (le64 expiry ++ (le32 bytes ++ (zeros 4 ++ Y))) epoch 8 (simp append_assoc) (simp (length-append, length-le)) h

  pub head-expiry : expiry < 256 ^ 8 → read64 its 16 ≡ expiry
  unfolding item_head
  head-expiry h =
      field 8 its (le32 key ++ (le32 count ++ le64 epoch)) (le32 bytes ++ (zeros 4 ++ Y)) expiry 16 (simp append_assoc) (simp (length-append, length-le)) h

  pub head_bytes : bytes < 256 ^ 4 → read32 its 24 ≡ bytes
  unfolding item_head
  head_bytes h =
      field 4 its (le32 key ++ (le32 count ++ (le64 epoch ++ le64 expiry))) (zeros 4 ++ Y) bytes 24 (simp append_assoc) (simp (length-append, length-le)) h

-- ---- an entry

module _ (en : Entry) (Y : Bytes) where
  pub command-length : length en.command < 256 ^ 4 → read32 (enc_entry en ++ Y) 0 ≡ length en.command
  unfolding enc_entry
  command-length h = rw append_assoc (head_first (length en.command) (length en.value) ((en.command ++ en.value) ++ Y) h)

  pub value-length : length en.value < 256 ^ 4 → read32 (enc_entry en ++ Y) 4 ≡ length en.value
  unfolding enc_entry
  value-length h = rw append_assoc (head-second (length en.command) (length en.value) ((en.command ++ en.value) ++ Y) h)

  pub entry-command : part (enc_entry en ++ Y) 16 (length en.command) ≡ en.command
  unfolding enc_entry
  entry-command = simp append_assoc (part_at (head (length en.command) (length en.value)) en.command (en.value ++ Y) 16 _ (length-head _ _) refl)

  pub entry_value : part (enc_entry en ++ Y) (16 + length en.command) (length en.value) ≡ en.value
  unfolding enc_entry
  entry_value =
      let H : Bytes = head (length en.command) (length en.value) in
      let e : enc_entry en ++ Y ≡ (H ++ en.command) ++ (en.value ++ Y) = simp append_assoc in
      rw e (part_at (H ++ en.command) en.value Y _ _ (simp (length-append, length-head)) refl)

  pub entry_next : drop (16 + length en.command + length en.value) (enc_entry en ++ Y) ≡ Y
  entry_next = drop_at (enc_entry en) Y _ (length-entry en)

  -- the whole entry
  pub entry_read : length en.command < 256 ^ 4 → length en.value < 256 ^ 4 → read_entry (enc_entry en ++ Y) ≡ en
  unfolding read_entry
  entry_read a b = rw (command-length a, value-length b, entry-command, entry_value)

-- entries, as many as they are
pub entries-read : (ens : List Entry) (Y : Bytes) → entry_bytes ens < 256 ^ 4 → read_entries (length ens) (enc_entries ens ++ Y) ≡ ens
unfolding read_entries enc_entries entry_bytes
entries-read [] Y h = refl
entries-read (en ∷ ens) Y h =
    let Z : Bytes = enc_entries ens ++ Y in
    let a : length en.command < 256 ^ 4 = omega arith in
    let b : length en.value < 256 ^ 4 = omega arith in
    rw (append_assoc (enc_entry en) (enc_entries ens) Y, entry_read en Z a b, command-length en Z a, value-length en Z b, entry_next en Z)
    (ap (λ (z : List Entry). en ∷ z) (entries-read ens Y (omega arith)))

-- ---- an item

module _ (it : Item) (Y : Bytes) where
  -- what follows the head
  abbrev rest : Bytes
  rest = (it.key ++ enc_entries it.entries) ++ Y

  abbrev head_of : Bytes
  head_of = item_head (length it.key) (length it.entries) it.epoch it.expiry (entry_bytes it.entries)

  pub key-length : Small it → read32 (enc_item it ++ Y) 0 ≡ length it.key
  unfolding enc_item
  key-length w = rw append_assoc (head-key _ _ _ _ _ rest w.key)

  pub entry-count : Small it → read32 (enc_item it ++ Y) 4 ≡ length it.entries
  unfolding enc_item
  entry-count w = rw append_assoc (head-count _ _ _ _ _ rest w.count)

  pub item-epoch : Small it → read64 (enc_item it ++ Y) 8 ≡ it.epoch
  unfolding enc_item
  item-epoch w = rw append_assoc (head-epoch _ _ _ _ _ rest w.epoch)

  pub item-expiry : Small it → read64 (enc_item it ++ Y) 16 ≡ it.expiry
  unfolding enc_item
  item-expiry w = rw append_assoc (head-expiry _ _ _ _ _ rest w.expiry)

  pub entries-length : Small it → read32 (enc_item it ++ Y) 24 ≡ entry_bytes it.entries
  unfolding enc_item
  entries-length w = rw append_assoc (head_bytes _ _ _ _ _ rest w.bytes)

  pub item-key : part (enc_item it ++ Y) 32 (length it.key) ≡ it.key
  unfolding enc_item
  item-key = simp append_assoc (part_at head_of it.key (enc_entries it.entries ++ Y) 32 _ (length-item_head _ _ _ _ _) refl)

  -- its entries follow its key
  pub item-entries : drop (32 + length it.key) (enc_item it ++ Y) ≡ enc_entries it.entries ++ Y
  unfolding enc_item
  item-entries =
      let e : enc_item it ++ Y ≡ (head_of ++ it.key) ++ (enc_entries it.entries ++ Y) = simp append_assoc in
      rw e (drop_at (head_of ++ it.key) (enc_entries it.entries ++ Y) (32 + length it.key) (simp (length-append, length-item_head)))

  pub item-next : drop (32 + length it.key + entry_bytes it.entries) (enc_item it ++ Y) ≡ Y
  item-next = drop_at (enc_item it) Y _ (length-item it)

  -- the whole item
  pub item-read : Small it → read_item (enc_item it ++ Y) ≡ it
  unfolding read_item
  item-read w =
      rw (key-length w, entry-count w, item-epoch w, item-expiry w, item-key, item-entries, entries-read it.entries Y w.bytes)

-- items, as many as they are
pub items-read : (row : Row) (Y : Bytes) → Smalls row → read_items (length row) (enc_items row ++ Y) ≡ row
unfolding read_items enc_items
items-read [] Y w = refl
items-read (it ∷ row) Y w =
    let Z : Bytes = enc_items row ++ Y in
    rw (append_assoc (enc_item it) (enc_items row) Y, item-read it Z w.0, key-length it Z w.0, entries-length it Z w.0, item-next it Z)
    (ap (λ (z : Row). it ∷ z) (items-read row Y w.1))

-- a shard of n bytes
pub shard-read : (n : ℕ) (row : Row) → length row < 256 ^ 4 → Smalls row → read_shard (enc_shard n row) ≡ row
unfolding read_shard enc_shard
shard-read n row h w =
    let Y : Bytes = enc_items row ++ zeros (n - (16 + row_bytes row)) in
    rw (head_first (length row) (row_bytes row) Y h, drop_at (head (length row) (row_bytes row)) Y 16 (length-head _ _))
    (items-read row (zeros (n - (16 + row_bytes row))) w)
