-- `decimal::has_more` meets its contract: beyond the greatest number of n digits there are more. Assumes nothing.
use native.Mathlib.Omega.{arith}
use Rattle.decimal.specs.Ranges.{beyond}
use Rattle.decimal.proofs.has_more.Goals as goal

pub returns : goal.returns
returns c = beyond c.args.n _ _ c.args.v c.range_of.ensures (omega arith)
