-- `resp3_prefix::minus_of` meets its contract. Assumes nothing.
use mathlib.Core.Path.{sym, ap, ◌∙◌}
use Rattle.resp3_prefix.specs.Begun.{minus_of}
use Rattle.resp3_prefix.specs.Paths as paths
use Rattle.resp3_prefix.proofs.minus_of.Goals as goal

pub returns-else-n-eq0 : goal.returns-else-n-eq0
returns-else-n-eq0 c = sym (ap minus_of c.in-Whole.is ∙ paths.minus-whole _ _ c.if-n-eq0.false)

pub returns-else-m-eq0 : goal.returns-else-m-eq0
returns-else-m-eq0 c = sym (ap minus_of c.in-Digits.is ∙ paths.minus-digits _ c.if-m-eq0.false)

pub returns-else-m-eq0-2 : goal.returns-else-m-eq0-2
returns-else-m-eq0-2 c = sym (ap minus_of c.in-Ended.is ∙ paths.minus-ended _ c.if-m-eq0-2.false)
