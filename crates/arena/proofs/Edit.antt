-- Laws of specs/Edit.antt. What changes of a row do to its shard's bytes, in the terms of the crate buffer: `spliced`, `rotated`, `put`. A shard has n bytes. Assumes that the
-- row is within them, before and after.
use Rattle.std.specs.Prelude.{◌≡◌}
use Rattle.std.proofs.Common.{sym, ◌∙◌}
use Rattle.std.proofs.Math.Path.{ap, ap₂}
use Prim.Native.Nat.{ℕ, ◌+◌, ◌-◌, ◌≤◌}
use native.Mathlib.Omega.{arith}
use mathlib.Core.List.{List, [], ◌∷◌, ◌++◌, append_assoc}
use Rattle.std.proofs.Math.ListN.{length, length-append}
use Rattle.buffer.specs.Same.{Bytes}
use Rattle.buffer.specs.Field.{le32, le64}
use Rattle.buffer.specs.Move.{spliced, rotated, spliced-zeros, rotated-at}
use Rattle.buffer.specs.Part.{put}
use Rattle.book.specs.Book.{Entry, Item, Row, entry_bytes, row_bytes}
use Rattle.arena.specs.Layout.{zeros, head, item_head, enc_entries, enc_items, enc_shard}
use Rattle.arena.proofs.Length.{length-head, length-item_head, length-entries, length-items}
use Rattle.arena.specs.Pieces.{item_of}
use Rattle.arena.proofs.Pieces.{row_bytes-append, entry_bytes-append, put_second, put_both, put-fields, opened, opened-item}
use Rattle.arena.specs.Edit.{item_bytes, place_after}

-- three rows together
three-bytes : (a b c : Row) → row_bytes (a ++ (b ++ c)) ≡ row_bytes a + (row_bytes b + row_bytes c)
three-bytes a b c = row_bytes-append a (b ++ c) ∙ ap (λ (z : ℕ). row_bytes a + z) (row_bytes-append b c)

three-entries : (a b c : List Entry) → entry_bytes (a ++ (b ++ c)) ≡ entry_bytes a + (entry_bytes b + entry_bytes c)
three-entries a b c = entry_bytes-append a (b ++ c) ∙ ap (λ (z : ℕ). entry_bytes a + z) (entry_bytes-append b c)

-- ---- items replaced by others: one removed, one put in front, the oldest dropped

module _ (n : ℕ) (front mid back new : Row) where
  abbrev old : Row
  old = front ++ (mid ++ back)

  abbrev after : Row
  after = front ++ (new ++ back)

  -- the items' bytes are replaced, and the shard's count of items and bytes used written
  pub items-replaced : 16 + row_bytes old ≤ n → 16 + row_bytes after ≤ n
      → put
      (put (spliced (enc_shard n old) (place_after front) (place_after front + row_bytes mid) (place_after old) (enc_items new)) 0 (le32 (length after)))
      4
      (le32 (row_bytes after))
      ≡ enc_shard n after
  items-replaced h l =
      let F : Bytes = enc_items front in
      let M : Bytes = enc_items mid in
      let T : Bytes = enc_items back in
      let N : Bytes = enc_items new in
      let H : Bytes = head (length old) (row_bytes old) in
      let z : ℕ = n - (16 + row_bytes old) in
      let was : enc_shard n old ≡ (H ++ F) ++ (M ++ (T ++ zeros z)) = opened n front mid back ∙ sym (append_assoc H F (M ++ (T ++ zeros z))) in
      let o = three-bytes front mid back in
      let a = three-bytes front new back in
      let f = length-items front in
      let m = length-items mid in
      let t = length-items back in
      let k = length-items new in
      let left : length M + z - length N ≡ n - (16 + row_bytes after) = omega arith in
      let spliced-to : spliced ((H ++ F) ++ (M ++ (T ++ zeros z))) (place_after front) (place_after front + row_bytes mid) (place_after old) N
      ≡ (H ++ F) ++ (N ++ (T ++ zeros (length M + z - length N))) =
      spliced-zeros (H ++ F) M T N (place_after front) (place_after front + row_bytes mid) (place_after old) z
      (simp (length-append, length-head, f)) (omega arith) (omega arith) (omega arith) in
      ap (λ (s : Bytes). put (put s 0 (le32 (length after))) 4 (le32 (row_bytes after)))
      (ap (λ (s : Bytes). spliced s (place_after front) (place_after front + row_bytes mid) (place_after old) N) was
      ∙ spliced-to ∙ append_assoc H F (N ++ (T ++ zeros (length M + z - length N))))
      ∙ put_both (length old) (row_bytes old) (length after) (row_bytes after) (F ++ (N ++ (T ++ zeros (length M + z - length N))))
      ∙ ap (λ (k : ℕ). head (length after) (row_bytes after) ++ (F ++ (N ++ (T ++ zeros k)))) left
      ∙ sym (opened n front new back)

-- ---- an item brought forward

-- two neighbouring ranges are exchanged, and the shard's head stays
pub item-forward : (n : ℕ) (front back : Row) (it : Item)
    → rotated (enc_shard n (front ++ (it ∷ back))) 16 (place_after front) (place_after front + item_bytes it) ≡ enc_shard n (it ∷ (front ++ back))
unfolding row_bytes
item-forward n front back it =
    let was : Row = front ++ (it ∷ back) in
    let now : Row = it ∷ (front ++ back) in
    let H : Bytes = head (length was) (row_bytes was) in
    let F : Bytes = enc_items front in
    let M : Bytes = enc_items (it ∷ []) in
    let Z : Bytes = enc_items back ++ zeros (n - (16 + row_bytes was)) in
    let b : row_bytes was ≡ row_bytes now = omega (arith, three-bytes front (it ∷ []) back, row_bytes-append front back) in
    let c : length was ≡ length now = simp length-append (omega arith) in
    ap (λ (s : Bytes). rotated s 16 (place_after front) (place_after front + item_bytes it)) (opened n front (it ∷ []) back)
    ∙ rotated-at H F M Z 16 (place_after front) (place_after front + item_bytes it) (length-head _ _) (omega (arith, length-items front))
    (omega (arith, length-items (it ∷ [])))
    ∙ ap₂ (λ (i j : ℕ). head i j ++ (M ++ (F ++ (enc_items back ++ zeros (n - (16 + j)))))) c b
    ∙ sym (opened n (it ∷ []) front back)

-- ---- entries of an item replaced by others: one updated, one added behind the others

module _ (n : ℕ) (front back : Row) (k : Bytes) (e x t : ℕ) (ef em eb en : List Entry) where
  abbrev was : Row
  was = front ++ (item_of k e x (ef ++ (em ++ eb)) ∷ back)

  -- with expiry t
  abbrev now : Row
  now = front ++ (item_of k e t (ef ++ (en ++ eb)) ∷ back)

  -- the place of the item, and that of the entries within it
  abbrev at : ℕ
  at = place_after front

  abbrev from : ℕ
  from = at + 32 + length k + entry_bytes ef

  -- what follows the item's head then
  abbrev rest : Bytes
  rest = k ++ (enc_entries ef ++ (enc_entries en ++ (enc_entries eb ++ (enc_items back ++ zeros (n - (16 + row_bytes now))))))

  -- the entries' bytes are replaced, and every field is as it was
  entries-spliced : 16 + row_bytes was ≤ n → 16 + row_bytes now ≤ n
      → spliced (enc_shard n was) from (from + entry_bytes em) (place_after was) (enc_entries en)
      ≡ (head (length was) (row_bytes was) ++ enc_items front)
      ++ (item_head (length k) (length (ef ++ (em ++ eb))) e x (entry_bytes (ef ++ (em ++ eb))) ++ rest)
  unfolding row_bytes
  entries-spliced h l =
      let H : Bytes = head (length was) (row_bytes was) in
      let F : Bytes = enc_items front in
      let I : Bytes = item_head (length k) (length (ef ++ (em ++ eb))) e x (entry_bytes (ef ++ (em ++ eb))) in
      let M : Bytes = enc_entries em in
      let N : Bytes = enc_entries en in
      let T : Bytes = enc_entries eb ++ enc_items back in
      let X : Bytes = H ++ (F ++ (I ++ (k ++ enc_entries ef))) in
      let z : ℕ = n - (16 + row_bytes was) in
      let w₁ = three-bytes front (item_of k e x (ef ++ (em ++ eb)) ∷ []) back in
      let w₂ = three-bytes front (item_of k e t (ef ++ (en ++ eb)) ∷ []) back in
      let w₃ = three-entries ef em eb in
      let w₄ = three-entries ef en eb in
      let a = length-entries ef in
      let m = length-entries em in
      let v = length-entries en in
      let f = length-items front in
      let tail : length T ≡ entry_bytes eb + row_bytes back = length-append (enc_entries eb) (enc_items back) ∙ ap₂ ◌+◌ (length-entries eb) (length-items back) in
      let left : length M + z - length N ≡ n - (16 + row_bytes now) = omega arith in
      let pieces : enc_shard n was ≡ X ++ (M ++ (T ++ zeros z)) = opened-item n front back k e x ef em eb ∙ simp append_assoc in
      let lx : length X ≡ from = simp (length-append, length-head, length-item_head) (omega arith) in
      ap (λ (s : Bytes). spliced s from (from + entry_bytes em) (place_after was) N) pieces
      ∙ spliced-zeros X M T N from (from + entry_bytes em) (place_after was) z lx (omega arith) (omega arith) (omega arith)
      ∙ ap (λ (i : ℕ). X ++ (N ++ (T ++ zeros i))) left
      ∙ simp append_assoc

  -- and then the item's count of entries, expiry and bytes of its entries and the shard's bytes used are written
  pub entries-replaced : 16 + row_bytes was ≤ n → 16 + row_bytes now ≤ n
      → put
      (put
      (put
      (put (spliced (enc_shard n was) from (from + entry_bytes em) (place_after was) (enc_entries en)) (at + 4) (le32 (length (ef ++ (en ++ eb)))))
      (at + 16)
      (le64 t))
      (at + 24)
      (le32 (entry_bytes (ef ++ (en ++ eb)))))
      4
      (le32 (row_bytes now))
      ≡ enc_shard n now
  entries-replaced h l =
      let H : Bytes = head (length was) (row_bytes was) in
      let F : Bytes = enc_items front in
      let I : Bytes = item_head (length k) (length (ef ++ (en ++ eb))) e t (entry_bytes (ef ++ (en ++ eb))) in
      let lx : length (H ++ F) ≡ at = simp (length-append, length-head, length-items) in
      let count : length was ≡ length now = simp length-append in
      rw (entries-spliced h l)
      (ap (λ (s : Bytes). put s 4 (le32 (row_bytes now)))
      (put-fields (H ++ F) at lx (length k) e rest (length (ef ++ (em ++ eb))) x (entry_bytes (ef ++ (em ++ eb))) (length (ef ++ (en ++ eb))) t
      (entry_bytes (ef ++ (en ++ eb)))
      ∙ append_assoc H F (I ++ rest))
      ∙ put_second (length was) (row_bytes was) (row_bytes now) (F ++ (I ++ rest))
      ∙ ap (λ (i : ℕ). head i (row_bytes now) ++ (F ++ (I ++ rest))) count
      ∙ sym (opened-item n front back k e t ef en eb))
