-- `resp3::null_word_at` meets its contract. Assumes nothing.
use mathlib.Core.Path.{sym, ap, ◌∙◌}
use native.Mathlib.Omega.{arith}
use Rattle.resp3.specs.Ends.{null_byte_b}
use Rattle.resp3.specs.Nulls as nulls
use Rattle.resp3.proofs.null_word_at.Goals as goal

pub returns-then-s-lt2 : goal.returns-then-s-lt2
returns-then-s-lt2 c = sym (nulls.word_out _ _ (omega arith))

pub returns-then-at-s : goal.returns-then-at-s
returns-then-at-s c = sym (nulls.word_out _ _ (omega arith))

pub returns-then-s-at-ne45 : goal.returns-then-s-at-ne45
returns-then-s-at-ne45 c = sym (nulls.word-minus _ _ c.if-s-at-ne45.true)

pub returns-then-s-at-eq36 : goal.returns-then-s-at-eq36
returns-then-s-at-eq36 c = sym (nulls.word_byte _ _ c.if-s-at-ne45.false ∙ ap null_byte_b c.if-s-at-eq36.true)

pub returns : goal.returns
returns c = sym (nulls.word_else _ _ c.if-s-at-ne45.false c.if-s-at-eq36.false)
