-- `resp3_prefix::boolean_begun` meets its contract. Assumes nothing.
use mathlib.Core.Path.{sym, ◌∙◌}
use Rattle.std.proofs.Common.{rules}
use Rattle.resp3_prefix.specs.Paths as paths
use Rattle.resp3_prefix.proofs.boolean_begun.Goals as goal

pub returns-then-at-s : goal.returns-then-at-s
returns-then-at-s c = sym (paths.bool-out _ _ c.if-at-s.true)

pub returns-in-116 : goal.returns-in-116
returns-in-116 c = c.crlf_begun.ensures ∙ sym (paths.bool-is _ _ c.if-at-s.false c.in-116.is)

pub returns-in_default : goal.returns-in_default
returns-in_default c = sym (paths.bool-else _ _ c.if-at-s.false (search rules) (search rules))
