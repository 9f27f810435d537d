-- The tests for equal bytes and for zeros, by std's words: `==` of slices, bits gathered by a fold, blocks of one length. Assumes nothing.
use mathlib.Core.Path.{◌≡◌, refl, ap, ◌∙◌}
use mathlib.Core.Bool.{Bool, false, cond}
use mathlib.Core.List.{List, [], ◌∷◌}
use Prim.Native.Nat.{ℕ, zero, suc, ◌*◌, ◌/◌}
use native.Mathlib.Omega.{arith}
use lib.Dec.{eqb}
use lib.Bits.{bit_or, or_zero_l, or_add_and, and_le_r}
use borrow.Author.Tests.{eqb-true, eqb-false, ne_eqb}
use Rattle.std.specs.Cmp.Lexicographic.{pointwise}
use Rattle.std.specs.List.{fold, list_all}
use Rattle.std.specs.Simd.{first_chunks}
use Rattle.std.proofs.Common.{length, take, drop, take-append-drop, drop-drop, zero-mul, suc-mul, add_comm, sym}
use Rattle.buffer.specs.Cases.{by_test}
use Rattle.buffer.specs.Same.{Bytes, same}
use Rattle.buffer.specs.Zero.{all_zero, all_zero-append}

-- `==` of slices
pub pointwise_same : (a b : Bytes) → pointwise eqb a b ≡ same a b
unfolding same
pointwise_same [] [] = refl
pointwise_same [] (y ∷ b) = refl
pointwise_same (x ∷ a) [] = refl
pointwise_same (x ∷ a) (y ∷ b) = by_test (eqb x y) (λ e. rw e (pointwise_same a b)) (λ e. rw e)

-- `|` is zero where both are
or-test : (x y : ℕ) → eqb (bit_or x y) 0 ≡ cond (eqb x 0) (eqb y 0) false
or-test x y =
    by_test (eqb x 0)
    (λ p. rw p (ap (λ (z : ℕ). eqb z 0) (ap (λ (z : ℕ). bit_or z y) (eqb-true x 0 p) ∙ or_zero_l y)))
    (λ p. rw p (ne_eqb (bit_or x y) 0 (λ e. eqb-false x 0 p (omega (arith, e, or_add_and x y, and_le_r x y)))))

-- the bits that are gathered on top of x
gathered : (s : Bytes) (x : ℕ) → eqb (fold bit_or x s) 0 ≡ cond (eqb x 0) (all_zero s) false
unfolding all_zero
gathered [] x = by_test (eqb x 0) (λ e. rw e) (λ e. rw e)
gathered (y ∷ s) x = gathered s (bit_or x y) ∙ rw (or-test x y) (by_test (eqb x 0) (λ e. rw e) (λ e. rw e))

pub gathered_zero : (s : Bytes) → eqb (fold bit_or 0 s) 0 ≡ all_zero s
gathered_zero s = gathered s 0

-- the test of a front and of what follows it
by_front : (n : ℕ) (s : Bytes) → all_zero s ≡ cond (all_zero (take n s)) (all_zero (drop n s)) false
by_front n s = ap all_zero (sym (take-append-drop n s)) ∙ all_zero-append (take n s) (drop n s)

-- k blocks of n bytes, and what follows them
by_blocks : (n k : ℕ) (s : Bytes) → cond (list_all all_zero (first_chunks n k s)) (all_zero (drop (k * n) s)) false ≡ all_zero s
unfolding all_zero
by_blocks n zero s = rw zero-mul
by_blocks n (suc k) s =
    let d : drop (k * n) (drop n s) ≡ drop (suc k * n) s = drop-drop (k * n) n s ∙ ap (λ (i : ℕ). drop i s) (rw (suc-mul k n, add_comm n (k * n))) in
    sym (by_front n s ∙ by_test (all_zero (take n s)) (λ e. rw e (sym (by_blocks n k (drop n s)) ∙ rw d)) (λ e. rw e))

-- where the blocks of s are tested, the test of s is decided or is that of the rest
pub blocks_tested : (n : ℕ) (s rest : Bytes) (bs : List Bytes) {u t : Bool} → bs ≡ first_chunks n (length s / n) s → rest ≡ drop (length s / n * n) s
    → u ≡ list_all all_zero bs → u ≡ t → cond t (all_zero rest) false ≡ all_zero s
blocks_tested n s rest bs f d e q = let b = by_blocks n (length s / n) s in cc
