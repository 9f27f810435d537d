-- `push::handle_push` meets its contract. Assumes nothing.
use mathlib.Core.Path.{refl, sym, ◌∙◌}
use Rattle.sharded_lru.specs.Admit.{admits, enter}
use Rattle.single_calls.specs.AnswerLaws.{not-admitted-cause}
use Rattle.resp3.proofs.Law.{value-means}
use Rattle.push.specs.Calls.{not-admitted, is-admitted, bad-bytes, good-bytes, one_value, push-refused, push-left}
use Rattle.push.proofs.handle_push.Goals as goal

pub returns-then-not-is_value : goal.returns-then-not-is_value
returns-then-not-is_value c = λ next.
    let w = admits _ _ _ _ _ (sym c.admit.ensures ∙ c.in-Ok.is) in
    push-refused _ _ refl _ _ next (is-admitted _ _ _ _ _ _ _ next w ∙ bad-bytes _ _ _ _ (sym c.is_value.ensures ∙ c.if-not-is_value.true))

pub push_in-sum-requires : goal.push_in-sum-requires
push_in-sum-requires c = (
  enter _ _ _ _ _ (sym c.admit.ensures ∙ c.in-Ok.is),
  one_value _
      (sym c.is_value.ensures ∙ c.if-not-is_value.false),
)

pub returns-in-Err : goal.returns-in-Err
returns-in-Err c = λ next.
    let e = sym c.admit.ensures ∙ c.in-Err.is in
    push-refused _ _ (not-admitted-cause _ _ _ _ _ e) _ _ next (not-admitted _ _ _ _ _ _ _ next e)

pub returns-else-not-is_value : goal.returns-else-not-is_value
returns-else-not-is_value c = λ next.
    let w = admits _ _ _ _ _
    (sym c.admit.ensures
    ∙ c.in-Ok.is) in
    let e = sym c.is_value.ensures ∙ c.if-not-is_value.false in
    push-left _ _ _ _ _ _ next _ _ (is-admitted _ _ _ _ _ _ _ next w ∙ good-bytes _ _ _ _ e) c.push_in-sum.auto.arena
    (c.push_in-sum.ensures _ _ (value-means _ e) (record { lent = w.lent; counts = refl }))
