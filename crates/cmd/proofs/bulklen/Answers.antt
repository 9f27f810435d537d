-- `cmd::bulklen` meets its contract. Assumes nothing.
use native.Mathlib.Omega.{arith}
use Rattle.decimal.specs.DigitLaws.{count-max}
use Rattle.cmd.proofs.bulklen.Goals as goal

pub overflow_add-result : goal.overflow_add-result
overflow_add-result c = let e = c.countdigits.ensures in let m = count-max c.args.len (omega arith) in omega arith

pub overflow_add-result-2 : goal.overflow_add-result-2
overflow_add-result-2 c = let e = c.countdigits.ensures in let m = count-max c.args.len (omega arith) in omega arith
