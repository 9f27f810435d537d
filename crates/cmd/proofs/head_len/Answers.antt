-- `cmd::head_len` meets its contract. Assumes nothing.
use native.Mathlib.Omega.{arith}
use Rattle.decimal.specs.DigitLaws.{count-max}
use Rattle.cmd.specs.Laws.{head-length}
use Rattle.cmd.proofs.head_len.Goals as goal

pub overflow_add-result : goal.overflow_add-result
overflow_add-result c = let e = c.countdigits.ensures in let m = count-max c.args.n (omega arith) in omega arith

pub returns : goal.returns
returns c mark = let e = c.countdigits.ensures in let l = head-length mark c.args.n in omega arith
