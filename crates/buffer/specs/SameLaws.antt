-- Laws of comparing bytes. Assumes nothing.
use Rattle.std.specs.Prelude.{◌≡◌, refl, true, false, cond, [], ◌∷◌, ◌++◌, length, eqb}
use Rattle.std.proofs.Common.{ap, ap₂, arith, eqb-true}
use Rattle.std.proofs.lemmas.Bool.{false≢true}
use Rattle.buffer.specs.Cases.{by_test, eqb_same}
use Rattle.buffer.specs.Same.{Bytes, same}

-- a byte string is the same as itself
pub same_refl : (a : Bytes) → same a a ≡ true
unfolding same
same_refl [] = refl
same_refl (x ∷ xs) = rw (eqb_same x) (same_refl xs)

-- what the test finds the same is equal
pub same-eq : (a b : Bytes) → same a b ≡ true → a ≡ b
unfolding same
same-eq [] [] e = refl
same-eq [] (y ∷ ys) e = absurd (false≢true e)
same-eq (x ∷ xs) [] e = absurd (false≢true e)
same-eq (x ∷ xs) (y ∷ ys) e =
    by_test (eqb x y)
    (λ p. ap₂ ◌∷◌ (eqb-true x y p) (same-eq xs ys (rw p at e)))
    (λ p. absurd (false≢true (rw p at e)))

-- byte strings in two pieces each, the first ones as long, are the same where their pieces are
pub same-append : (a b c d : Bytes) → length a ≡ length c → same (a ++ b) (c ++ d) ≡ cond (same a c) (same b d) false
unfolding same
same-append [] b [] d l = refl
same-append [] b (y ∷ c) d l = absurd (omega arith)
same-append (x ∷ a) b [] d l = absurd (omega arith)
same-append (x ∷ a) b (y ∷ c) d l = by_test (eqb x y) (λ p. rw p (same-append a b c d (omega arith))) (λ p. rw p)

-- byte strings that are not equal are not the same
pub unequal-same : (a b : Bytes) → (a ≡ b → ⊥) → same a b ≡ false
unequal-same a b n = by_test (same a b) (λ p. absurd (n (same-eq a b p))) (λ p. p)

-- byte strings of other lengths are not the same
pub same_length : (a b : Bytes) → (length a ≡ length b → ⊥) → same a b ≡ false
same_length a b n = unequal-same a b (λ e. n (ap length e))
