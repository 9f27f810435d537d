-- `resp3_prefix::lacking_row` meets its contract. Assumes nothing.
use mathlib.Core.Path.{sym, ◌∙◌}
use Rattle.resp3_prefix.specs.Paths as paths
use Rattle.resp3_prefix.proofs.lacking_row.Goals as goal

pub returns-then-k-gt-MAX_BYTES : goal.returns-then-k-gt-MAX_BYTES
returns-then-k-gt-MAX_BYTES c = sym (paths.row-far _ _ c.if-k-gt-MAX_BYTES.true)

pub returns-then-n : goal.returns-then-n
returns-then-n c = sym (paths.row-many _ _ c.if-k-gt-MAX_BYTES.false c.if-n.true)

pub returns : goal.returns
returns c = c.lacking.ensures ∙ sym (paths.row-sum _ _ c.if-k-gt-MAX_BYTES.false c.if-n.false)
