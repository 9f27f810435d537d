-- `resp3_element::negative` meets its contract. Assumes nothing.
use Prim.Native.Nat.{◌-◌}
use native.Mathlib.Omega.{arith}
use Rattle.resp3_element.proofs.Minus as minus
use Rattle.resp3_element.proofs.negative.Goals as goal

pub overflow_sub-result-2 : goal.overflow_sub-result-2
overflow_sub-result-2 c = minus.fits (c.args.n - 1) (omega arith)

pub returns : goal.returns
returns c = minus.back (c.args.n - 1) (omega arith)
