-- `single_calls::invalidate_admitted` meets its contract: one law for each way out. Assumes nothing.
use mathlib.Core.Path.{refl, sym, ◌∙◌}
use Rattle.book.specs.Book.{effect_on}
use Rattle.single_calls.specs.Single.{overlong, wrong_bytes}
use Rattle.single_calls.proofs.Ways.{too_long_lem, invalidation-refused, invalidation-left}
use Rattle.single_calls.proofs.invalidate_admitted.Goals as goal

pub returns-then-too_long : goal.returns-then-too_long
unfolding overlong
returns-then-too_long c rows next w = invalidation-refused _ _ refl _ _ _ (too_long_lem _ rows _ _ (sym c.too_long.ensures ∙ c.if-too_long.true))

pub returns : goal.returns
unfolding overlong wrong_bytes effect_on
returns c rows next w =
    let a = c.args in
    let r = c.invalidate-n.ensures rows w in
    rw c.increase_each.ensures
    (invalidation-left _ _ _ rows _ next c.invalidate-n.auto.arena r.0
    (sym c.too_long.ensures ∙ c.if-too_long.false) refl a.counts
    c.invalidate-n.result refl r.1)
