-- `resp3_prefix::verbatim_digits` meets its contract. Assumes nothing.
use mathlib.Core.Path.{sym}
use Rattle.resp3_prefix.specs.Paths as paths
use Rattle.resp3_prefix.proofs.verbatim_digits.Goals as goal

pub returns-then-m-ge4 : goal.returns-then-m-ge4
returns-then-m-ge4 c = sym (paths.digits-four _ c.if-m-ge4.true)

pub returns-then-m-eq0 : goal.returns-then-m-eq0
returns-then-m-eq0 c = sym (paths.digits-zero _ c.if-m-eq0.true)

pub returns : goal.returns
returns c = sym (paths.digits-few _ c.if-m-ge4.false c.if-m-eq0.false)
