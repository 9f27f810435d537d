-- `resp3_prefix::string_begun` meets its contract. Assumes nothing.
use mathlib.Core.Path.{sym, ◌∙◌}
use Rattle.resp3_prefix.specs.Nulls as nulls
use Rattle.resp3_prefix.proofs.string_begun.Goals as goal

pub returns-then-at-s : goal.returns-then-at-s
returns-then-at-s c = sym (nulls.string-out _ _ c.if-at-s.true)

pub returns : goal.returns
returns c = c.blob_begun.ensures ∙ sym (nulls.string-in _ _ c.if-at-s.false)
