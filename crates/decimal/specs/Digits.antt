-- The decimal digits of a number, in ASCII, the most significant first. Assumes nothing: these are definitions.
use Rattle.std.specs.Prelude.{cond, List, [], ◌∷◌, ◌++◌, ℕ, zero, suc, ◌+◌, ◌/◌, ◌%◌, ltb}

-- the digits of n in at most k steps; k steps are enough where n < k
abbrev pub digits_f : ℕ → ℕ → List ℕ
digits_f zero n = []
digits_f (suc k) n =
    let more = digits_f k (n / 10) ++ ((48 + n % 10) ∷ []) in
    cond (ltb n 10) ((48 + n) ∷ []) more

-- the digits of n: below ten the digit itself (0 is `0`), else the digits of a tenth of it and then its last digit
unfoldable pub digits : ℕ → List ℕ
digits n = digits_f (suc n) n
