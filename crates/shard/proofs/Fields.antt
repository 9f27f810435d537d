-- What is read in a shard's bytes: its header, and the fields of an item that stands at a place. Assumes that the bytes hold a row.
use mathlib.Core.Path.{◌≡◌, sym, ap, ◌∙◌}
use Prim.Native.Nat.{ℕ, ◌+◌, ◌-◌, ◌≤◌, zero-le}
use native.Mathlib.Omega.{arith}
use mathlib.Core.List.{[], ◌∷◌, ◌++◌, append_assoc}
use lib.ListN.{length, length-append}
use Rattle.buffer.specs.Same.{Bytes}
use Rattle.buffer.specs.Field.{read_le, read32, read64}
use Rattle.buffer.specs.FieldLaws.{read_past}
use Rattle.buffer.specs.Part.{part}
use Rattle.buffer.specs.PartLaws.{part-past}
use Rattle.book.specs.Book.{Item, Row, row_entries, entry_bytes, row_bytes}
use Rattle.arena.specs.Layout.{zeros, head, enc_item, enc_items, enc_shard}
use Rattle.arena.proofs.Length.{length-head, length-items}
use Rattle.arena.specs.Read.{Small, Smalls}
use Rattle.arena.proofs.Read.{head_first, head-second, key-length, entry-count, item-epoch, item-expiry, entries-length, item-key}
use Rattle.arena.proofs.Image.{items-few, entries-few}
use Rattle.arena.specs.Edit.{item_bytes, place_after}
use Rattle.arena.proofs.Steps.{bytes-around}
use Rattle.arena.proofs.Pieces.{opened, row_bytes-append}
use Rattle.shard.specs.Holds.{Holds, Stands}

-- a row takes at least a byte for each entry
pub all-few : (row : Row) → row_entries row ≤ row_bytes row
unfolding row_entries row_bytes
all-few [] = zero-le
all-few (it ∷ row) = omega (arith, entries-few it.entries, all-few row)

-- ---- the header

pub count-read : {s : Bytes} {row : Row} → Holds s row → read32 s 0 ≡ length row
unfolding enc_shard
count-read {s} {row} w =
    let r = w.room in
    let l = w.short in
    ap (λ (z : Bytes). read32 z 0) w.is ∙ head_first (length row) (row_bytes row) _ (omega (arith, items-few row))

pub used-read : {s : Bytes} {row : Row} → Holds s row → read32 s 4 ≡ row_bytes row
unfolding enc_shard
used-read {s} {row} w =
    let r = w.room in
    let l = w.short in
    ap (λ (z : Bytes). read32 z 4) w.is ∙ head-second (length row) (row_bytes row) _ (omega arith)

-- ---- an item

-- an item of a row whose numbers fit fits
small_at : (front back : Row) (it : Item) → Smalls (front ++ (it ∷ back)) → Small it
small_at [] back it w = w.0
small_at (jt ∷ front) back it w = small_at front back it w.1

-- the bytes before and behind an item
pub record Pieces (s : Bytes) (at : ℕ) (it : Item) : Type 0 where
  pub before : Bytes
  pub behind : Bytes
  pub is : s ≡ before ++ (enc_item it ++ behind)
  pub starts : length before ≡ at

pub pieces : {s : Bytes} {at : ℕ} (n : ℕ) (front back : Row) (it : Item) → s ≡ enc_shard n (front ++ (it ∷ back)) → at ≡ place_after front → Pieces s at it
unfolding enc_items
pieces n front back it e p =
    let row : Row = front ++ (it ∷ back) in
    let H : Bytes = head (length row) (row_bytes row) in
    let Z : Bytes = enc_items back ++ zeros (n - (16 + row_bytes row)) in
    record {
      before = H ++ enc_items front;
      behind = Z;
      is = e ∙ opened n front (it ∷ []) back ∙ simp append_assoc;
      starts = simp (length-append, length-head, length-items) (sym p);
    }

-- what is read in an item at `at`, and where it ends; the shard has an item then
pub record Fields (s : Bytes) (at : ℕ) (it : Item) : Type 0 where
  pub key-len : read32 s at ≡ length it.key
  pub count : read32 s (at + 4) ≡ length it.entries
  pub epoch : read64 s (at + 8) ≡ it.epoch
  pub expiry : read64 s (at + 16) ≡ it.expiry
  pub bytes : read32 s (at + 24) ≡ entry_bytes it.entries
  pub key : part s (at + 32) (length it.key) ≡ it.key
  pub some_item : 1 ≤ read32 s 0
  pub starts : 16 ≤ at
  pub ends : at + item_bytes it ≤ 16 + read32 s 4
  pub room : 16 + read32 s 4 ≤ length s
  pub short : length s ≤ 2147483648

pub fields : {s : Bytes} {at : ℕ} {front back : Row} {it : Item} → Stands s at front back it → Fields s at it
fields {s} {at} {front} {back} {it} w =
    let q = pieces (length s) front back it w.holds.is w.place in
    let small : Small it = small_at front back it w.holds.fits in
    let used = used-read w.holds in
    let more = bytes-around front back it in
    let sum = row_bytes-append front back in
    let p = w.place in
    let r = w.holds.room in
    record {
      key-len = ap (read_le 4 s) (at-0 at) ∙ field q 4 0 ∙ key-length it q.behind small;
      count = field q 4 4 ∙ entry-count it q.behind small;
      epoch = field q 8 8 ∙ item-epoch it q.behind small;
      expiry = field q 8 16 ∙ item-expiry it q.behind small;
      bytes = field q 4 24 ∙ entries-length it q.behind small;
      key = ap (λ (z : Bytes). part z (at + 32) (length it.key)) q.is ∙ part-past q.before _ at 32 _ q.starts ∙ item-key it q.behind;
      some_item = let l = count-read w.holds in let n = length-append front (it ∷ back) in omega arith;
      starts = omega arith;
      ends = omega arith;
      room = omega arith;
      short = w.holds.short;
    }
  where
    at-0 : (n : ℕ) → n ≡ n + 0
    at-0 n = omega arith

    -- a field of the item is read in its own bytes
    field : (q : Pieces s at it) (v k : ℕ) → read_le v s (at + k) ≡ read_le v (enc_item it ++ q.behind) k
    field q v k = ap (λ (z : Bytes). read_le v z (at + k)) q.is ∙ read_past v q.before _ at k q.starts
