-- What setup leaves of an arena, as a law of its definition. Assumes nothing.
use Rattle.std.proofs.Common.{◌≡◌, ℕ, ◌-◌, length, sym, ap, ◌∙◌, arith}
use Rattle.std.specs.Prelude.{replicate}
use lib.ListN.{length-replicate}
use Rattle.buffer.specs.Same.{Bytes}
use Rattle.buffer.specs.Part.{put}
use Rattle.buffer.specs.PartLaws.{put_all}
use Rattle.buffer.specs.Zero.{zeroed}

-- zeros in place of every byte
pub all-zero : (s t : Bytes) → t ≡ zeroed s 0 (length s) → t ≡ replicate (length s) 0
all-zero s t z =
    let n : length s - 0 ≡ length s = omega arith in
    let l : length s ≡ length (replicate {A = ℕ} (length s) 0) = sym (length-replicate (length s) 0) in
    z ∙ ap (λ (m : ℕ). put s 0 (replicate m 0)) n ∙ put_all s (replicate (length s) 0) l
