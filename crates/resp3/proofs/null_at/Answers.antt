-- `resp3::null_at` meets its contract. Assumes nothing.
use native.Mathlib.Omega.{arith}
use Rattle.resp3.specs.Value.{encode}
use Rattle.resp3.proofs.null_at.Goals as goal

pub same_at-requires : goal.same_at-requires
unfolding encode
same_at-requires c = omega arith

pub returns : goal.returns
unfolding encode
returns c = c.same_at.ensures
