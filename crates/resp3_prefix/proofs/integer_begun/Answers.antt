-- `resp3_prefix::integer_begun` meets its contract. Assumes nothing.
use mathlib.Core.Path.{sym, ◌∙◌}
use Rattle.resp3_prefix.specs.Paths as paths
use Rattle.resp3_prefix.proofs.integer_begun.Goals as goal

pub returns-then-at-s : goal.returns-then-at-s
returns-then-at-s c = sym (paths.integer-out _ _ c.if-at-s.true)

pub returns-then-s-at-eq45 : goal.returns-then-s-at-eq45
returns-then-s-at-eq45 c = c.minus_of.ensures ∙ sym (paths.integer-minus _ _ _ c.if-s-at-eq45.true (sym c.count_begun.ensures))

pub returns : goal.returns
returns c = c.digits_of.ensures ∙ sym (paths.integer-plain _ _ _ c.if-s-at-eq45.false (sym c.count_begun-2.ensures))
