-- `resp3_prefix::null_begun` meets its contract. Assumes nothing.
use mathlib.Core.Path.{sym, ap, ◌∙◌}
use native.Mathlib.Omega.{arith}
use Rattle.resp3.specs.Nulls.{word_in}
use Rattle.resp3_prefix.specs.Begun.{alone_of}
use Rattle.resp3_prefix.specs.Nulls as nulls
use Rattle.resp3_prefix.proofs.null_begun.Goals as goal

pub overflow_add-at : goal.overflow_add-at
overflow_add-at c = let k = word_in _ _ (sym c.null_word_at.ensures ∙ c.if-null_word_at.true) in omega arith

pub returns-then-null_word_at : goal.returns-then-null_word_at
returns-then-null_word_at c =
    c.alone.ensures ∙ ap alone_of c.one_begun.ensures ∙ sym (nulls.null-yes _ _ (sym c.null_word_at.ensures ∙ c.if-null_word_at.true))

pub returns : goal.returns
returns c = sym (nulls.null-no _ _ (sym c.null_word_at.ensures ∙ c.if-null_word_at.false))
