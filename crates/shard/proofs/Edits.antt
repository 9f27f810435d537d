-- What touch, remove and clear make of a shard's bytes. Assumes that they hold a row, and that the item stands at the place.
use mathlib.Core.Path.{◌≡◌, refl, sym, ap, ◌∙◌}
use Prim.Native.Nat.{ℕ, ◌+◌, ◌-◌, ◌≤◌}
use native.Mathlib.Omega.{arith}
use mathlib.Core.List.{[], ◌∷◌, ◌++◌, append_assoc}
use lib.ListN.{length, length-append, length-replicate, replicate-append-replicate}
use Rattle.buffer.specs.Same.{Bytes}
use Rattle.buffer.specs.Field.{le, le32}
use Rattle.buffer.specs.Part.{put}
use Rattle.buffer.specs.PartLaws.{put-at}
use Rattle.buffer.specs.Zero.{zeroed}
use Rattle.buffer.specs.Move.{resized, spliced, rotated, resized-none}
use Rattle.book.specs.Book.{Item, Row, row_bytes}
use Rattle.arena.specs.Layout.{zeros, head, enc_items, enc_shard}
use Rattle.arena.proofs.Length.{length-head, length-items}
use Rattle.arena.specs.Edit.{item_bytes}
use Rattle.arena.proofs.Edit.{items-replaced, item-forward}
use Rattle.arena.proofs.Steps.{bytes-around}
use Rattle.shard.specs.Holds.{Holds, Stands}

module _ {s : Bytes} {at : ℕ} {front back : Row} {it : Item} (w : Stands s at front back it) where
  abbrev row : Row
  row = front ++ (it ∷ back)

  -- rotated to the front
  pub brought-forward : (size : ℕ) → size ≡ item_bytes it → rotated s 16 at (at + size) ≡ enc_shard (length s) (it ∷ (front ++ back))
  brought-forward size e = (λ i. rotated (w.holds.is i) 16 (w.place i) (w.place i + e i)) ∙ item-forward (length s) front back it

  -- cut out, with the header written
  pub taken_out : (size count used : ℕ) → size ≡ item_bytes it → count ≡ length row → used ≡ row_bytes row
      → put (put (resized s at (at + size) (16 + used) 0) 0 (le32 (count - 1))) 4 (le32 (used - size)) ≡ enc_shard (length s) (front ++ back)
  unfolding enc_items row_bytes
  taken_out size count used p q t =
      let e : item_bytes it + 0 ≡ item_bytes it = omega arith in
      let n : count - 1 ≡ length (front ++ back) = omega (arith, length-append front (it ∷ back), length-append front back) in
      let b : used - size ≡ row_bytes (front ++ back) = omega (arith, bytes-around front back it) in
      ap (λ (z : Bytes). put (put z 0 (le32 (count - 1))) 4 (le32 (used - size))) (resized-none s at (at + size) (16 + used))
      ∙ (λ i. put (put (spliced (w.holds.is i) (w.place i) (w.place i + p i) (16 + t i) []) 0 (le32 (n i))) 4 (le32 (b i)))
      ∙ rw e at (items-replaced (length s) front (it ∷ []) back [] w.holds.room (omega (arith, bytes-around front back it, w.holds.room)))

-- an empty shard is zeros
empty-shard : (n : ℕ) → 16 ≤ n → enc_shard n [] ≡ zeros n
unfolding enc_shard head enc_items le row_bytes
empty-shard n h = let e : 16 + (n - 16) ≡ n = omega arith in replicate-append-replicate {A = ℕ} 16 (n - 16) 0 ∙ ap zeros e

-- header and items zeroed
pub emptied : {s : Bytes} {row : Row} → Holds s row → (used : ℕ) → used ≡ row_bytes row → zeroed s 0 (16 + used) ≡ enc_shard (length s) []
unfolding enc_shard
emptied {s} {row} w used u =
    let r = w.room in
    let M : Bytes = head (length row) (row_bytes row) ++ enc_items row in
    let z : ℕ = length s - (16 + row_bytes row) in
    let b : ℕ = 16 + row_bytes row - 0 in
    let is : s ≡ M ++ zeros z = w.is ∙ sym (append_assoc (head (length row) (row_bytes row)) (enc_items row) (zeros z)) in
    let l : length M ≡ length (zeros b) = simp (length-append, length-head, length-items, length-replicate) (omega arith) in
    let e : b + z ≡ length s = omega arith in
    ap (λ (n : ℕ). zeroed s 0 (16 + n)) u ∙ ap (λ (y : Bytes). put y 0 (zeros b)) is ∙ put-at [] M (zeros z) (zeros b) 0 refl l
    ∙ replicate-append-replicate {A = ℕ} b z 0 ∙ ap zeros e ∙ sym (empty-shard (length s) (omega arith))
