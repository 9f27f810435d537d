-- `caching_cmd::resolve_admitted` meets its contract. Assumes nothing.
use Rattle.caching_cmd.specs.Laws as law
use mathlib.Core.Path.{refl, sym, ◌∙◌}
use Rattle.caching_cmd.proofs.resolve_admitted.Goals as goal

pub returns-then-not-is_plan : goal.returns-then-not-is_plan
returns-then-not-is_plan c = λ h rows a l. rw (law.not-plan _ rows _ _ _ _ _ h (sym c.is_plan.ensures ∙ c.if-not-is_plan.true)) (refl, refl, refl, sym a, refl)

pub returns-then-not-is_value : goal.returns-then-not-is_value
returns-then-not-is_value c =
    λ h rows a l. rw (law.not-value _ rows _ _ _ _ _ h (sym c.is_plan.ensures ∙ c.if-not-is_plan.false)
    (sym c.is_value.ensures ∙ c.if-not-is_value.true)) (refl, refl, refl, sym a, refl)

pub resolve_checked-requires : goal.resolve_checked-requires
resolve_checked-requires c = (
  c.requires,
  sym c.is_plan.ensures
      ∙ c.if-not-is_plan.false,
  sym c.is_value.ensures
      ∙ c.if-not-is_value.false,
)

pub returns : goal.returns
returns c =
    λ h rows a l. law.judged-comes _ rows _ _ _ _ _ h _ _ _ _ a l c.arena-1.given
    (sym c.is_plan.ensures
    ∙ c.if-not-is_plan.false)
    (sym c.is_value.ensures
    ∙ c.if-not-is_value.false) c.resolve_checked.ensures
