-- `resp3_prefix::one_begun` meets its contract. Assumes nothing.
use mathlib.Core.Path.{sym, ◌∙◌}
use Rattle.resp3_prefix.specs.Nulls as nulls
use Rattle.resp3_prefix.proofs.one_begun.Goals as goal

pub returns-then-at-s : goal.returns-then-at-s
returns-then-at-s c = sym (nulls.one_out _ _ c.if-at-s.true)

pub returns-then-s-at-ne49 : goal.returns-then-s-at-ne49
returns-then-s-at-ne49 c = sym (nulls.one-no _ _ c.if-at-s.false c.if-s-at-ne49.true)

pub returns : goal.returns
returns c = c.crlf_begun.ensures ∙ sym (nulls.one-yes _ _ c.if-at-s.false c.if-s-at-ne49.false)
