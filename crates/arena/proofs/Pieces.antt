-- Laws of specs/Pieces.antt. A shard in its pieces: the bytes of items or entries before, at and after a place, and the fields of heads replaced. Assumes nothing.
use Rattle.std.specs.Prelude.{◌≡◌, ℕ, ◌+◌, ◌-◌, length}
use Rattle.std.proofs.Math.Path.{refl}
use Rattle.std.proofs.Common.{sym, ap, ◌∙◌, arith, length-append}
use mathlib.Core.List.{List, [], ◌∷◌, ◌++◌, append_assoc, append-nil}
use Rattle.buffer.specs.Same.{Bytes}
use Rattle.buffer.specs.Field.{le32, le64}
use Rattle.buffer.specs.FieldLaws.{length-le}
use Rattle.buffer.specs.Part.{put}
use Rattle.buffer.specs.PartLaws.{put-at}
use Rattle.book.specs.Book.{Entry, Item, Row, entry_bytes, row_bytes}
use Rattle.arena.specs.Layout.{zeros, head, item_head, enc_entry, enc_entries, enc_item, enc_items, enc_shard}
use Rattle.arena.specs.Pieces.{item_of}

pub enc_items-append : (xs ys : Row) → enc_items (xs ++ ys) ≡ enc_items xs ++ enc_items ys
unfolding enc_items
enc_items-append [] ys = refl
enc_items-append (it ∷ xs) ys = rw (enc_items-append xs ys) (sym (append_assoc (enc_item it) (enc_items xs) (enc_items ys)))

pub enc_entries-append : (xs ys : List Entry) → enc_entries (xs ++ ys) ≡ enc_entries xs ++ enc_entries ys
unfolding enc_entries
enc_entries-append [] ys = refl
enc_entries-append (en ∷ xs) ys = rw (enc_entries-append xs ys) (sym (append_assoc (enc_entry en) (enc_entries xs) (enc_entries ys)))

pub row_bytes-append : (xs ys : Row) → row_bytes (xs ++ ys) ≡ row_bytes xs + row_bytes ys
unfolding row_bytes
row_bytes-append [] ys = omega arith
row_bytes-append (it ∷ xs) ys = omega (arith, row_bytes-append xs ys)

pub entry_bytes-append : (xs ys : List Entry) → entry_bytes (xs ++ ys) ≡ entry_bytes xs + entry_bytes ys
unfolding entry_bytes
entry_bytes-append [] ys = omega arith
entry_bytes-append (en ∷ xs) ys = omega (arith, entry_bytes-append xs ys)

-- ---- a field replaced

-- in bytes that are given in their pieces
field_put : (s t X M Z bs : Bytes) (at : ℕ) → s ≡ X ++ (M ++ Z) → t ≡ X ++ (bs ++ Z) → length X ≡ at → length M ≡ length bs → put s at bs ≡ t
field_put s t X M Z bs at e f x m = rw e (put-at X M Z bs at x m) ∙ sym f

-- the two numbers of a shard's or an entry's head

module _ (a b c : ℕ) (Y : Bytes) where
  pub put_first : put (head a b ++ Y) 0 (le32 c) ≡ head c b ++ Y
  unfolding head
  put_first =
      field_put (head a b ++ Y) (head c b ++ Y) [] (le32 a) (le32 b ++ (zeros 8 ++ Y)) (le32 c) 0 (simp append_assoc) (simp append_assoc) refl (simp length-le)

  pub put_second : put (head a b ++ Y) 4 (le32 c) ≡ head a c ++ Y
  unfolding head
  put_second =
      field_put (head a b ++ Y) (head a c ++ Y) (le32 a) (le32 b) (zeros 8 ++ Y) (le32 c) 4 (simp append_assoc) (simp append_assoc) (length-le 4 a)
      (simp length-le)

-- both of them
pub put_both : (a b c d : ℕ) (Y : Bytes) → put (put (head a b ++ Y) 0 (le32 c)) 4 (le32 d) ≡ head c d ++ Y
put_both a b c d Y = ap (λ (z : Bytes). put z 4 (le32 d)) (put_first a b c Y) ∙ put_second c b d Y

-- count of entries, expiry and bytes of the entries in the head of an item that stands at `at`, behind X

module _ (X : Bytes) (at : ℕ) (x : length X ≡ at) (key epoch : ℕ) (Y : Bytes) where
  -- the item
  abbrev headed : ℕ → ℕ → ℕ → Bytes
  headed count expiry bytes = X ++ (item_head key count epoch expiry bytes ++ Y)

  pub put_count : (count expiry bytes c : ℕ) → put (headed count expiry bytes) (at + 4) (le32 c) ≡ headed c expiry bytes
  unfolding item_head
  put_count count expiry bytes c =
      field_put (headed count expiry bytes) (headed c expiry bytes) (X ++ le32 key) (le32 count)
      (le64 epoch ++ (le64 expiry ++ (le32 bytes ++ (zeros 4 ++ Y)))) (le32 c) (at + 4) (simp append_assoc) (simp append_assoc)
      (simp (length-append, length-le) (omega arith)) (simp length-le)

  pub put-expiry : (count expiry bytes t : ℕ) → put (headed count expiry bytes) (at + 16) (le64 t) ≡ headed count t bytes
  unfolding item_head
  put-expiry count expiry bytes t =
      field_put (headed count expiry bytes) (headed count t bytes) (X ++ (le32 key ++ (le32 count ++ le64 epoch))) (le64 expiry)
      (le32 bytes ++ (zeros 4 ++ Y)) (le64 t) (at + 16) (simp append_assoc) (simp append_assoc) (simp (length-append, length-le) (omega arith)) (simp length-le)

  pub put-bytes : (count expiry bytes d : ℕ) → put (headed count expiry bytes) (at + 24) (le32 d) ≡ headed count expiry d
  unfolding item_head
  put-bytes count expiry bytes d =
      field_put (headed count expiry bytes) (headed count expiry d) (X ++ (le32 key ++ (le32 count ++ (le64 epoch ++ le64 expiry)))) (le32 bytes) (zeros 4 ++ Y)
      (le32 d) (at + 24) (simp append_assoc) (simp append_assoc) (simp (length-append, length-le) (omega arith)) (simp length-le)

  -- all three
  pub put-fields : (count expiry bytes c t d : ℕ)
      → put (put (put (headed count expiry bytes) (at + 4) (le32 c)) (at + 16) (le64 t)) (at + 24) (le32 d) ≡ headed c t d
  put-fields count expiry bytes c t d = rw (put_count count expiry bytes c, put-expiry c expiry bytes t, put-bytes c t bytes d)

-- ---- a shard opened

-- between its items
pub opened : (n : ℕ) (front mid back : Row)
    → enc_shard n (front ++ (mid ++ back))
    ≡ head (length (front ++ (mid ++ back))) (row_bytes (front ++ (mid ++ back)))
    ++ (enc_items front ++ (enc_items mid ++ (enc_items back ++ zeros (n - (16 + row_bytes (front ++ (mid ++ back)))))))
unfolding enc_shard
opened n front mid back =
    let Z : Bytes = zeros (n - (16 + row_bytes (front ++ (mid ++ back)))) in
    let H : Bytes = head (length (front ++ (mid ++ back))) (row_bytes (front ++ (mid ++ back))) in
    ap (λ (z : Bytes). H ++ (z ++ Z)) (enc_items-append front (mid ++ back) ∙ ap (λ (z : Bytes). enc_items front ++ z) (enc_items-append mid back))
    ∙ ap (λ (z : Bytes). H ++ z)
    (append_assoc (enc_items front) (enc_items mid ++ enc_items back) Z
    ∙ ap (λ (z : Bytes). enc_items front ++ z) (append_assoc (enc_items mid) (enc_items back) Z))

-- entries in three, before anything
entries-opened : (ef em eb : List Entry) (R : Bytes)
    → enc_entries (ef ++ (em ++ eb)) ++ R ≡ enc_entries ef ++ (enc_entries em ++ (enc_entries eb ++ R))
entries-opened ef em eb R =
    ap (λ (z : Bytes). z ++ R) (enc_entries-append ef (em ++ eb)) ∙ append_assoc (enc_entries ef) (enc_entries (em ++ eb)) R
    ∙ ap (λ (z : Bytes). enc_entries ef ++ z)
    (ap (λ (z : Bytes). z ++ R) (enc_entries-append em eb) ∙ append_assoc (enc_entries em) (enc_entries eb) R)

-- an item before anything
item-opened : (it : Item) (R : Bytes)
    → enc_items (it ∷ []) ++ R
    ≡ item_head (length it.key) (length it.entries) it.epoch it.expiry (entry_bytes it.entries) ++ (it.key ++ (enc_entries it.entries ++ R))
unfolding enc_items enc_item
item-opened it R =
    let H : Bytes = item_head (length it.key) (length it.entries) it.epoch it.expiry (entry_bytes it.entries) in
    ap (λ (z : Bytes). z ++ R) (append-nil (H ++ (it.key ++ enc_entries it.entries)))
    ∙ append_assoc H (it.key ++ enc_entries it.entries) R ∙ ap (λ (z : Bytes). H ++ z) (append_assoc it.key (enc_entries it.entries) R)

-- between the entries of an item
pub opened-item : (n : ℕ) (front back : Row) (k : Bytes) (e x : ℕ) (ef em eb : List Entry)
    → let row : Row = front ++ (item_of k e x (ef ++ (em ++ eb)) ∷ back) in
    enc_shard n row
    ≡ head (length row) (row_bytes row)
    ++ (enc_items front
    ++ (item_head (length k) (length (ef ++ (em ++ eb))) e x (entry_bytes (ef ++ (em ++ eb)))
    ++ (k ++ (enc_entries ef ++ (enc_entries em ++ (enc_entries eb ++ (enc_items back ++ zeros (n - (16 + row_bytes row)))))))))
opened-item n front back k e x ef em eb =
    let it : Item = item_of k e x (ef ++ (em ++ eb)) in
    let row : Row = front ++ (it ∷ back) in
    let R : Bytes = enc_items back ++ zeros (n - (16 + row_bytes row)) in
    let H : Bytes = item_head (length k) (length (ef ++ (em ++ eb))) e x (entry_bytes (ef ++ (em ++ eb))) in
    opened n front (it ∷ []) back
    ∙ ap (λ (z : Bytes). head (length row) (row_bytes row) ++ (enc_items front ++ z))
    (item-opened it R ∙ ap (λ (z : Bytes). H ++ (k ++ z)) (entries-opened ef em eb R))
