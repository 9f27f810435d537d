-- Zeros: the test whether a byte string has no other byte, with its two laws, and a range that is zeroed. Assumes nothing.
use Rattle.std.specs.Prelude.{◌≡◌, refl, ℕ, zero, suc, ◌-◌, Bool, true, false, cond, [], ◌∷◌, ◌++◌, length, replicate, eqb}
use Rattle.std.proofs.Common.{ap₂, eqb-true}
use Rattle.std.proofs.lemmas.Bool.{false≢true}
use Rattle.buffer.specs.Cases.{by_test, eqb_same}
use Rattle.buffer.specs.Same.{Bytes}
use Rattle.buffer.specs.Part.{put}

-- whether every byte is zero
unfoldable pub all_zero : Bytes → Bool
all_zero [] = true
all_zero (x ∷ xs) = cond (eqb x 0) (all_zero xs) false

-- s with zeros from `from` up to, not including, `to`
abbrev pub zeroed : Bytes → ℕ → ℕ → Bytes
zeroed s from to = put s from (replicate (to - from) 0)

-- zeros pass the test
pub zeros-pass : (n : ℕ) → all_zero (replicate n 0) ≡ true
unfolding all_zero
zeros-pass zero = refl
zeros-pass (suc n) = rw (eqb_same 0) (zeros-pass n)

-- what passes the test is zeros
pub passed-zeros : (s : Bytes) → all_zero s ≡ true → s ≡ replicate (length s) 0
unfolding all_zero
passed-zeros [] e = refl
passed-zeros (x ∷ xs) e =
    by_test (eqb x 0)
    (λ p. ap₂ ◌∷◌ (eqb-true x 0 p) (passed-zeros xs (rw p at e)))
    (λ p. absurd (false≢true (rw p at e)))

-- a byte string passes where its two pieces do
pub all_zero-append : (a b : Bytes) → all_zero (a ++ b) ≡ cond (all_zero a) (all_zero b) false
unfolding all_zero
all_zero-append [] b = refl
all_zero-append (x ∷ a) b = by_test (eqb x 0) (λ p. rw p (all_zero-append a b)) (λ p. rw p)
