-- Words of a key and the bytes behind them, by std's blocks and folds. Assumes nothing.
use Rattle.std.specs.Prelude.{◌≡◌, [], ◌∷◌, ◌++◌, ℕ, zero, suc, ◌+◌, ◌-◌, ◌*◌, ◌/◌, ◌%◌, ◌^◌, ◌<◌, ◌≤◌, length, get_or, take, drop, bit_or}
use Rattle.std.proofs.Common.{ap, sym, ◌∙◌, arith, drop-drop, mul_comm, w64}
use Rattle.std.proofs.lemmas.Nat.{or_shifted}
use Rattle.std.proofs.Math.Nat.{mul-zero, mul-suc}
use lib.ListN.{drop_of_length-le}
use Rattle.std.proofs.lemmas.List.Sums.{fold-append}
use mathlib.Core.List.{reverse, reverse-append}
use Rattle.std.specs.List.{fold}
use Rattle.std.specs.Int.{sum_through, byte_worth, from_le_bytes}
use Rattle.std.specs.Simd.{first_chunks}
use Rattle.buffer.specs.Same.{Bytes}
use Rattle.buffer.specs.Part.{part}
use Rattle.buffer.specs.PartLaws.{get_d_part}
use Rattle.buffer.specs.Places.{step}
use Rattle.buffer.specs.Field.{read_le, read64, Octets}
use Rattle.buffer.specs.FieldLaws.{read-add}
use Rattle.siphash.specs.Laws.{read-end, tail-below, tail-down}

read-one : (s : Bytes) (at : ℕ) → read_le 1 s at ≡ get_or s at 0
unfolding read_le
read-one s at = omega arith

-- the number that n bytes at `at` spell, by their worths
worths : (s : Bytes) (at n k : ℕ) → k < n → sum_through (λ i. byte_worth i (get_or (part s at n) i 0)) k ≡ read_le (suc k) s at
worths s at n zero h = let z : at + 0 ≡ at = omega arith in cc (get_d_part s at n 0 0 h, read-one s at)
worths s at n (suc k) h =
    let e : suc k + 1 ≡ suc (suc k) = omega arith in
    let r = rw e at (read-add (suc k) 1 s at) in
    cc (
      r,
      get_d_part s at n (suc k) 0 h,
      worths s at n k (omega arith),
      read-one s (at + suc k),
      mul_comm (get_or s (at + suc k) 0) (256 ^ suc k),
    )

-- the block of a key at a place is the word there
pub word : (s w : Bytes) (i : ℕ) → w ≡ take 8 (drop (8 * i) s) → from_le_bytes w64 w ≡ read64 s (8 * i)
word s w i e = ap (from_le_bytes w64) e ∙ unfold part in worths s (8 * i) 8 7 (omega arith)

-- a block by its index
pub block : (n k i : ℕ) (s : Bytes) (d : Bytes) → i < k → get_or (first_chunks n k s) i d ≡ take n (drop (n * i) s)
block n zero i s d h = absurd (omega arith)
block n (suc k) zero s d h = rw (mul-zero n)
block n (suc k) (suc i) s d h =
    let e : n + n * i ≡ n * suc i = omega (arith, mul-suc n i) in
    block n k i (drop n s) d (omega arith) ∙ ap (take n) (drop-drop (n * i) n s ∙ rw e)

-- one byte more, as the code puts it below those that were read
abbrev pub below : ℕ → ℕ → ℕ
below m b = bit_or (m * 2 ^ 8 % 2 ^ 64) b

below-is : (m b : ℕ) → m < 2 ^ 56 → b < 256 → below m b ≡ m * 256 + b
below-is m b h l = let e : m * 2 ^ 8 % 2 ^ 64 ≡ m * 2 ^ 8 = omega arith in rw e (or_shifted m 8 b l)

-- the bytes from i on, the last one first
pub gathered : (s : Bytes) (from d i : ℕ) → Octets s → from ≤ i → length s ≤ from + 7 → i + d ≡ length s → fold below 0 (reverse (drop i s)) ≡ read_le (from + 7 - i) s i
gathered s from zero i o f g e = rw (drop_of_length-le s {i = i} (omega arith)) (sym (read-end (from + 7 - i) s i (omega arith)))
gathered s from (suc d) i o f g e =
    let r : ℕ = fold below 0 (reverse (drop (i + 1) s)) in
    let q : r ≡ read_le (from + 7 - (i + 1)) s (i + 1) = gathered s from d (i + 1) o (omega arith) g (omega arith) in
    let m : r < 2 ^ 56 = tail-below s from (i + 1) r o (omega arith) q in
    let k : i + 1 - 1 ≡ i = omega arith in
    let t : r * 256 + get_or s i 0 ≡ read_le (from + 7 - i) s i = rw k at (tail-down s from (i + 1) r (omega arith) (omega arith) q) in
    let x : reverse (drop i s) ≡ reverse (drop (i + 1) s) ++ (get_or s i 0 ∷ []) = ap reverse (step s i (omega arith)) ∙ reverse-append (get_or s i 0 ∷ []) (drop (i + 1) s) in
    ap (fold below 0) x ∙ fold-append below 0 (reverse (drop (i + 1) s)) (get_or s i 0 ∷ []) ∙ below-is r (get_or s i 0) m (o i) ∙ t

-- the bytes behind the whole words
pub tail : (key r : Bytes) → Octets key → r ≡ drop (length key / 8 * 8) key → fold below 0 (reverse r) ≡ read_le 7 key (8 * (length key / 8))
tail key r o e =
    let from : ℕ = 8 * (length key / 8) in
    let a : length key / 8 * 8 ≡ from = omega arith in
    let w : from + 7 - from ≡ 7 = omega arith in
    let g : fold below 0 (reverse (drop from key)) ≡ read_le (from + 7 - from) key from =
    gathered key from (length key - from) from o (omega arith) (omega arith) (omega arith) in
    rw (e, a) (rw w at g)
