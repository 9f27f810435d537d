-- `served::served` meets its contract. Assumes nothing.
use mathlib.Core.Path.{refl, sym, ◌∙◌}
use Rattle.buffer.specs.Part.{part}
use Rattle.served.proofs.Laws as law
use Rattle.served.proofs.served.Goals as goal

pub returns-then-not-is_plan : goal.returns-then-not-is_plan
returns-then-not-is_plan c = law.not-one _ _ (sym c.is_plan.ensures ∙ c.if-not-is_plan.true)

pub served_checked-requires : goal.served_checked-requires
unfolding part
served_checked-requires c = (sym c.is_plan.ensures ∙ c.if-not-is_plan.false, refl)
