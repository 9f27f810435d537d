-- What the last arm of a `match` on a number knows, where the others are 1, 2 and so on. Assumes nothing.
use mathlib.Core.Path.{◌≡◌}
use Prim.Native.Nat.{ℕ, zero, suc, ◌<◌, ◌≤◌}
use native.Mathlib.Omega.{arith}

-- it is none of the numbers from 1 up to k
abbrev pub NoneUpTo : ℕ → ℕ → Type 0
NoneUpTo zero n = Unit {0}
NoneUpTo (suc k) n = NoneUpTo k n × ((n ≡ suc k) → ⊥)

-- so, being no 0, it is above them
pub above : (k n : ℕ) → 1 ≤ n → NoneUpTo k n → k < n
above zero n h a = h
above (suc k) n h a =
    let i = above k n h a.0 in
    let d = a.1 in
    omega arith
