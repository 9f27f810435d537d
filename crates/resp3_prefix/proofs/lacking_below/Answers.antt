-- `resp3_prefix::lacking_below` meets its contract. Assumes nothing.
use mathlib.Core.Path.{sym, ◌∙◌}
use Rattle.resp3_prefix.specs.Paths as paths
use Rattle.resp3_prefix.proofs.lacking_below.Goals as goal

pub returns-then-n-eq0 : goal.returns-then-n-eq0
returns-then-n-eq0 c = sym (paths.below_none _ _ _ c.if-n-eq0.true)

pub returns-then-depth-eq0 : goal.returns-then-depth-eq0
returns-then-depth-eq0 c = sym (paths.below-deep _ _ _ c.if-n-eq0.false c.if-depth-eq0.true)

pub returns : goal.returns
returns c = c.lacking_row.ensures ∙ sym (paths.below_row _ _ _ c.if-n-eq0.false c.if-depth-eq0.false)
