-- The bytes behind the whole words, read from the last one down: the last word's laws. What is past the end counts 0. Assumes nothing.
use Rattle.std.specs.Prelude.{◌≡◌, ℕ, zero, suc, ◌+◌, ◌-◌, ◌*◌, ◌^◌, ◌<◌, ◌≤◌, length, slice_index, refl}
use Rattle.std.proofs.Common.{arith}
use Rattle.std.proofs.Math.Nat.{pow-le-pow_right}
use Rattle.std.proofs.Math.ListN.{get_or-eq_default}
use Rattle.buffer.specs.Same.{Bytes}
use Rattle.buffer.specs.Field.{read_le, Octets}
use Rattle.buffer.specs.FieldLaws.{read_below}

-- a number all of whose bytes stand past the end is 0
pub read-end : (w : ℕ) (s : Bytes) (at : ℕ) → length s ≤ at → read_le w s at ≡ 0
unfolding read_le
read-end zero s at h = refl
read-end (suc w) s at h = omega (arith, get_or-eq_default s 0 h, read-end w s (at + 1) (omega arith))

-- what is read of the seven places behind the whole words is below 2 ^ 56
pub tail-below : (s : Bytes) (from i m : ℕ) → Octets s → from ≤ i → m ≡ read_le (from + 7 - i) s i → m < 2 ^ 56
tail-below s from i m b h e =
    let p : 256 ^ (from + 7 - i) ≤ 256 ^ 7 = let w : from + 7 - i ≤ 7 = omega arith in pow-le-pow_right (omega arith) w in
    omega (arith, read_below (from + 7 - i) s i b)

-- one byte more, below those that were read
pub tail-down : (s : Bytes) (from i m : ℕ) → from < i → i ≤ from + 7 → m ≡ read_le (from + 7 - i) s i
    → m * 256 + slice_index s (i - 1) ≡ read_le (from + 7 - (i - 1)) s (i - 1)
unfolding read_le
tail-down s from i m h k e =
    let w : from + 7 - (i - 1) ≡ suc (from + 7 - i) = omega arith in
    let j : i - 1 + 1 ≡ i = omega arith in
    rw (w, j, ← e) (omega arith)
