-- One pure law for what a part written over leaves. Assumes nothing.
use mathlib.Core.Path.{◌≡◌}
use mathlib.Core.List.{◌++◌}
use Prim.Native.Nat.{ℕ, ◌+◌, ◌-◌}
use native.Mathlib.Omega.{arith}
use lib.ListN.{length, take, drop}
use lib.Seq.{drop-drop}
use Rattle.buffer.specs.Same.{Bytes}
use Rattle.buffer.specs.Part.{put}

-- src in the place of as many bytes from `at` on
pub copy-law : (s src ys : Bytes) (at to : ℕ) → to ≡ at + length src → ys ≡ src → take at s ++ (ys ++ drop (to - at) (drop at s)) ≡ put s at src
unfolding put
copy-law s src ys at to t e =
    let k : to - at ≡ length src = omega arith in
    cc (drop-drop (length src) at s)
