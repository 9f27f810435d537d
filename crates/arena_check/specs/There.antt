-- What stands at a place of some bytes: zeros, heads, and what is read behind a front. Assumes of the bytes that they are below 256, where it says so.
use Rattle.std.specs.Prelude.{◌≡◌, refl, ℕ, ◌+◌, ◌≤◌, true, ◌++◌, length}
use Rattle.std.proofs.Common.{sym, ap, ◌∙◌, arith, add-zero, append_assoc, length-append}
use Rattle.std.proofs.lemmas.List.{length-replicate}
use Rattle.buffer.specs.Same.{Bytes}
use Rattle.buffer.specs.Field.{Octets, le32, le64, read_le, read32, read64}
use Rattle.buffer.specs.FieldLaws.{le_read, length-le, read_past}
use Rattle.buffer.specs.Part.{part}
use Rattle.buffer.specs.PartLaws.{part-add, part_at, part-past, length_part}
use Rattle.buffer.specs.Zero.{all_zero, passed-zeros}
use Rattle.arena.specs.Layout.{zeros, head, item_head}

-- zeros where the test says so
pub zeros-there : (s : Bytes) (at n : ℕ) → at + n ≤ length s → all_zero (part s at n) ≡ true → part s at n ≡ zeros n
zeros-there s at n h e = passed-zeros (part s at n) e ∙ ap zeros (length_part s at n h)

-- the head of an entry or a shard that stands there
pub head-there : (s : Bytes) (at : ℕ) → Octets s → at + 16 ≤ length s → all_zero (part s (at + 8) 8) ≡ true
    → part s at 16 ≡ head (read32 s at) (read32 s (at + 4))
unfolding head
head-there s at b h e =
    let i : at + 4 + 4 ≡ at + 8 = omega arith in
    cc (
      part-add s at 4 12,
      part-add s (at + 4) 4 8,
      le_read 4 s at b (omega arith),
      le_read 4 s (at + 4) b (omega arith),
      zeros-there s (at + 8) 8 (omega arith) e,
    )

-- and its zeros, where it is written
pub head-zeros : (a b : ℕ) (Y : Bytes) → part (head a b ++ Y) 8 8 ≡ zeros 8
unfolding head
head-zeros a b Y =
    let e : head a b ++ Y ≡ (le32 a ++ le32 b) ++ (zeros 8 ++ Y) = simp append_assoc in
    rw e (part_at (le32 a ++ le32 b) (zeros 8) Y 8 8 (simp (length-append, length-le)) (length-replicate {A = ℕ} 8 0))

-- the same of an item's head
pub item-head-there : (s : Bytes) (at : ℕ) → Octets s → at + 32 ≤ length s → all_zero (part s (at + 28) 4) ≡ true
    → part s at 32 ≡ item_head (read32 s at) (read32 s (at + 4)) (read64 s (at + 8)) (read64 s (at + 16)) (read32 s (at + 24))
unfolding item_head
item-head-there s at b h e =
    let i₁ : at + 4 + 4 ≡ at + 8 = omega arith in
    let i₂ : at + 8 + 8 ≡ at + 16 = omega arith in
    let i₃ : at + 16 + 8 ≡ at + 24 = omega arith in
    let i₄ : at + 24 + 4 ≡ at + 28 = omega arith in
    cc (
      part-add s at 4 28,
      part-add s (at + 4) 4 24,
      part-add s (at + 8) 8 16,
      part-add s (at + 16) 8 8,
      part-add s (at + 24) 4 4,
      le_read 4 s at b (omega arith),
      le_read 4 s (at + 4) b (omega arith),
      le_read 8 s (at + 8) b (omega arith),
      le_read 8 s (at + 16) b (omega arith),
      le_read 4 s (at + 24) b (omega arith),
      zeros-there s (at + 28) 4 (omega arith) e,
    )

pub item-head-zeros : (key count epoch expiry bytes : ℕ) (Y : Bytes) → part (item_head key count epoch expiry bytes ++ Y) 28 4 ≡ zeros 4
unfolding item_head
item-head-zeros key count epoch expiry bytes Y =
    let X : Bytes = le32 key ++ (le32 count ++ (le64 epoch ++ (le64 expiry ++ le32 bytes))) in
    let e : item_head key count epoch expiry bytes ++ Y ≡ X ++ (zeros 4 ++ Y) = simp append_assoc in
    rw e (part_at X (zeros 4) Y 28 4 (simp (length-append, length-le)) (length-replicate {A = ℕ} 4 0))

-- ---- bytes behind a front A

module _ (s A Z : Bytes) (e : s ≡ A ++ Z) where
  pub read_behind : (w k : ℕ) → read_le w s (length A + k) ≡ read_le w Z k
  read_behind w k = rw e (read_past w A Z (length A) k refl)

  pub read_first : (w : ℕ) → read_le w s (length A) ≡ read_le w Z 0
  read_first w = ap (read_le w s) (sym (add-zero (length A))) ∙ read_behind w 0

  pub part-behind : (k n : ℕ) → part s (length A + k) n ≡ part Z k n
  part-behind k n = rw e (part-past A Z (length A) k n refl)
