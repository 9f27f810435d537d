-- `resp3::write_null` meets its contract. Assumes nothing.
use native.Mathlib.Omega.{arith}
use Rattle.resp3.specs.Value.{encode}
use Rattle.resp3.proofs.write_null.Goals as goal

pub copy_to-requires : goal.copy_to-requires
unfolding encode
copy_to-requires c = omega arith

pub returns : goal.returns
unfolding encode
returns c = c.copy_to.ensures
