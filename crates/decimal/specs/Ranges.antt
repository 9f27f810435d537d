-- The numbers of so many digits lie between a least and a greatest one, which neighbouring powers of ten give. Assumes nothing.
-- Letters: n a number of digits, l the least number, g the greatest, v a number.
use Rattle.std.specs.Prelude.{◌≡◌, ◌↔◌, ℕ, suc, ◌+◌, ◌-◌, ◌<◌, ◌≤◌, ◌^◌, ltb, length}
use Rattle.std.proofs.Common.{sym, ◌∙◌, arith, ltb-true, ltb-false, le-ltb}
use Rattle.buffer.specs.Cases.{by_test}
use Rattle.decimal.specs.Digits.{digits}
use Rattle.decimal.specs.DigitLaws.{count-pos, count-below, count-from, count-max}

-- the 64-bit numbers of n digits: from l on a number has n or more, up to g it has n or fewer
pub record Holds (n l g : ℕ) : Type 0 where
  pub least : (v : ℕ) → (l ≤ v) ↔ (n ≤ length (digits v))
  pub greatest : (v : ℕ) → v < 2 ^ 64 → (v ≤ g) ↔ (length (digits v) ≤ n)

-- from a power of ten on
from : (k l v : ℕ) → l ≡ 10 ^ suc k → (l ≤ v) ↔ (suc (suc k) ≤ length (digits v))
from k l v e = (
  λ h. count-from (suc k) v (omega arith),
  λ h.
      by_test (ltb v l) (λ t. let f = count-below k v (omega (arith, ltb-true v l t)) in absurd (omega arith)) (λ t. ltb-false v l t),
)

-- up to the number before one
upto : (k g v : ℕ) → g + 1 ≡ 10 ^ suc k → (v ≤ g) ↔ (length (digits v) ≤ suc k)
upto k g v e = (
  λ h. count-below k v (omega arith),
  λ h.
      by_test (ltb g v) (λ t. let f = count-from (suc k) v (omega (arith, ltb-true g v t)) in absurd (omega arith)) (λ t. ltb-false g v t),
)

-- a number lies beyond the range exactly if it has more digits
pub beyond : (n l g v : ℕ) → Holds n l g → v < 2 ^ 64 → ltb g v ≡ ltb n (length (digits v))
beyond n l g v h w =
    by_test (ltb g v)
    (λ t.
    let f = ltb-true g v t in
    t ∙ sym (by_test (ltb n (length (digits v))) (λ e. e) (λ e. let c = (h.greatest v w).1 (ltb-false _ _ e) in absurd (omega arith))))
    (λ t. let c = (h.greatest v w).0 (ltb-false g v t) in t ∙ sym (le-ltb _ _ c))

-- one digit: from 0 up to 9
pub one-digit : Holds 1 0 9
one-digit = record { least = λ v. (λ h. count-pos v, λ h. omega arith); greatest = λ v w. upto 0 9 v (omega arith) }

-- two digits to nineteen: from a power of ten up to the number before the next
pub more-digits : (k l g : ℕ) → l ≡ 10 ^ suc k → g + 1 ≡ 10 ^ suc (suc k) → Holds (suc (suc k)) l g
more-digits k l g a b = record { least = λ v. from k l v a; greatest = λ v w. upto (suc k) g v b }

-- twenty digits: from a power of ten up to the greatest number of 64 bits
pub twenty-digits : Holds 20 (10 ^ 19) (2 ^ 64 - 1)
twenty-digits = record { least = λ v. from 18 (10 ^ 19) v (omega arith); greatest = λ v w. (λ h. count-max v w, λ h. omega arith) }
