-- `decimal::write_digits` meets its contract. The loop's invariant: the last digits are written (`Written`). Assumes nothing.
use native.Mathlib.Omega.{arith}
use Rattle.decimal.proofs.Written.{start, step, done}
use Rattle.decimal.proofs.write_digits.Goals as goal

pub loop-i-init : goal.loop-i-init
loop-i-init c = (omega arith, omega arith, start _ _ _ _ (omega arith) (omega arith))

pub loop-i-preserved : goal.loop-i-preserved
loop-i-preserved c = (omega arith, omega arith, step _ _ _ _ _ _ c.loop-i.invariant.2 c.loop-i-test.true)

pub returns : goal.returns
returns c = (omega arith, done _ _ _ _ _ _ c.loop-i.invariant.2 (omega arith))
