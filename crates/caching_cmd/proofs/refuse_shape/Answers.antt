-- `caching_cmd::refuse_shape` meets its contract. Assumes nothing.
use Rattle.caching_cmd.specs.Heads as heads
use mathlib.Core.Path.{refl}
use Rattle.caching_cmd.proofs.refuse_shape.Goals as goal

pub returns : goal.returns
returns c = (refl, heads.all-zeroed _ _ c.fill_zero.ensures)
