-- Induction on a number's digits, and how many digits a number has. Assumes nothing.
use Rattle.std.specs.Prelude.{◌≡◌, List, [], ◌∷◌, ◌++◌, ℕ, zero, suc, ◌+◌, ◌/◌, ◌<◌, ◌≤◌, ◌^◌, ◌%◌, ltb, length}
use Rattle.std.proofs.Common.{ap, arith, length-append, ltb-true, ltb-false, lt-ltb, le-ltb}
use Rattle.buffer.specs.Cases.{by_test}
use Rattle.decimal.specs.Digits.{digits, digits_f}

-- any two numbers of steps that are enough give the same digits
fuel : (k m n : ℕ) → n < k → n < m → digits_f k n ≡ digits_f m n
fuel zero m n h g = absurd (omega arith)
fuel (suc k) zero n h g = absurd (omega arith)
fuel (suc k) (suc m) n h g =
    by_test (ltb n 10)
    (λ e. rw e)
    (λ e. let l = ltb-false n 10 e in rw (e, fuel k m (n / 10) (omega arith) (omega arith)))

-- below ten there is one digit
pub digits-one : (n : ℕ) → n < 10 → digits n ≡ (48 + n) ∷ []
unfolding digits
digits-one n h = rw (lt-ltb n 10 h)

-- from ten on the last digit follows those of a tenth
pub digits_more : (n : ℕ) → 10 ≤ n → digits n ≡ digits (n / 10) ++ ((48 + n % 10) ∷ [])
unfolding digits
digits_more n h = rw (le-ltb n 10 h) (ap (λ (l : List ℕ). l ++ ((48 + n % 10) ∷ [])) (fuel n (suc (n / 10)) (n / 10) (omega arith) (omega arith)))

-- below ten the count is 1
pub count-one : (n : ℕ) → n < 10 → length (digits n) ≡ 1
count-one n h = rw (digits-one n h)

-- from ten on the count is one more than that of a tenth
pub count-more : (n : ℕ) → 10 ≤ n → length (digits n) ≡ length (digits (n / 10)) + 1
count-more n h = rw (digits_more n h, length-append)

-- what holds of every number below ten, and of a number where it holds of a tenth of it, holds of all
pub digits-cases : (P : ℕ → Type 0) → ((n : ℕ) → n < 10 → P n) → ((n : ℕ) → 10 ≤ n → P (n / 10) → P n) → (n : ℕ) → P n
digits-cases P small big n = go (suc n) n (omega arith)
  where
    go : (k n : ℕ) → n < k → P n
    go zero n h = absurd (omega arith)
    go (suc k) n h =
        by_test (ltb n 10)
        (λ e. small n (ltb-true n 10 e))
        (λ e. let l = ltb-false n 10 e in big n l (go k (n / 10) (omega arith)))

-- every number has a digit
pub count-pos : (n : ℕ) → 0 < length (digits n)
count-pos = digits-cases (λ n. 0 < length (digits n)) (λ n h. omega (arith, count-one n h)) (λ n h ih. omega (arith, count-more n h))

-- a number below 10^(k + 1) has at most k + 1 digits
pub count-below : (k n : ℕ) → n < 10 ^ suc k → length (digits n) ≤ suc k
count-below zero n h = omega (arith, count-one n h)
count-below (suc k) n h =
    by_test (ltb n 10)
    (λ e. omega (arith, count-one n (ltb-true n 10 e)))
    (λ e.
    let m = count-more n (ltb-false n 10 e) in
    let r = count-below k (n / 10) (omega arith) in
    omega arith)

-- a number of 64 bits has at most 20 digits
pub count-max : (n : ℕ) → n < 2 ^ 64 → length (digits n) ≤ 20
count-max n h = count-below 19 n (omega arith)

-- a power of ten is no 0
ten-pos : (k : ℕ) → 0 < 10 ^ k
ten-pos zero = omega arith
ten-pos (suc k) = let r = ten-pos k in omega arith

-- a number from 10^k on has at least k + 1 digits
pub count-from : (k n : ℕ) → 10 ^ k ≤ n → suc k ≤ length (digits n)
count-from zero n h = count-pos n
count-from (suc k) n h =
    let m = count-more n (omega (arith, ten-pos k)) in
    let r = count-from k (n / 10) (omega arith) in
    omega arith
