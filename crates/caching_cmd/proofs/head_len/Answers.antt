-- `caching_cmd::head_len` meets its contract. Assumes nothing.
use Rattle.caching_cmd.specs.Heads as heads
use native.Mathlib.Omega.{arith}
use Rattle.decimal.specs.DigitLaws.{count-max}
use Rattle.caching_cmd.proofs.head_len.Goals as goal

pub overflow_add-own : goal.overflow_add-own
overflow_add-own c = let k = count-max _ c.ranges.n.fits in omega (arith, c.countdigits-own.ensures)

pub overflow_add-result : goal.overflow_add-result
overflow_add-result c = let k = count-max _ c.ranges.n.fits in omega (arith, c.countdigits-own.ensures)

pub returns-then-transaction : goal.returns-then-transaction
returns-then-transaction c = heads.length-wrapped _ _ _ c.if-transaction.true c.countdigits-own.ensures

pub returns-else-transaction : goal.returns-else-transaction
returns-else-transaction c = heads.length-plain _ _ _ c.if-transaction.false c.countdigits-own.ensures
