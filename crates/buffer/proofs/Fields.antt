-- The bytes of a number by std's methods are those of Field.antt. Assumes nothing.
use Rattle.std.specs.Prelude.{◌≡◌, refl, ◌∷◌, ℕ, zero, suc, ◌/◌, ◌%◌, ◌^◌}
use Rattle.std.proofs.Common.{ap, sym, div-one, pow-suc}
use Rattle.std.proofs.Math.Nat.{div-div-eq-div-mul}
use Rattle.std.specs.Int.{bytes_low_first}
use Rattle.buffer.specs.Field.{le}

-- w bytes of a number from the i-th on
bytes-from : (i w n : ℕ) → bytes_low_first i w n ≡ le w (n / 256 ^ i)
unfolding le
bytes-from i zero n = refl
bytes-from zero (suc w) n = rw div-one (ap (◌∷◌ (n % 256)) (bytes-from 1 w n))
bytes-from (suc i) (suc w) n = rw (div-div-eq-div-mul, ← pow-suc 256 (suc i)) (ap (◌∷◌ (n / 256 ^ suc i % 256)) (bytes-from (suc (suc i)) w n))

-- the bytes that `to_le_bytes` gives
pub le_bytes : (w n : ℕ) → le w n ≡ bytes_low_first 0 w n
le_bytes w n = let e : n / 256 ^ 0 ≡ n = div-one n in sym (rw e at (bytes-from 0 w n))
