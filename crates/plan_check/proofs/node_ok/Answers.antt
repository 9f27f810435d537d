-- `plan_check::node_ok` meets its contract. Assumes nothing.
use mathlib.Core.Path.{sym, ap, ◌∙◌}
use Rattle.std.specs.Prelude.{Ok}
use Rattle.buffer.specs.Part.{part}
use Rattle.plan_check.specs.Check.{head_fine}
use Rattle.plan_check.specs.Paths.{kind_1, kind-other, kind-empty, kind-places, kind-key}
use Rattle.plan_check.proofs.node_ok.Goals as goal

pub returns-in_default : goal.returns-in_default
returns-in_default c = let a = c.args in sym (kind-other a.plan.now a.h _ c.in_default.is)

pub returns-in-HandOn : goal.returns-in-HandOn
returns-in-HandOn c = let a = c.args in c.empty_ok.ensures ∙ sym (kind-empty a.plan.now a.h _ c.in-Ok.is c.in-HandOn.is)

pub returns-in-Served : goal.returns-in-Served
unfolding part head_fine
returns-in-Served c = let a = c.args in c.value_ok.ensures ∙ sym (kind_1 a.plan.now a.h (c.in-Ok.is ∙ ap Ok c.in-Served.is))

pub returns-in-AllServed : goal.returns-in-AllServed
returns-in-AllServed c = let a = c.args in c.places_ok.ensures ∙ sym (kind-places a.plan.now a.h _ c.in-Ok.is c.in-AllServed.is)

pub returns-in-Missing : goal.returns-in-Missing
returns-in-Missing c = let a = c.args in c.key_ok.ensures ∙ sym (kind-key a.plan.now a.h _ c.in-Ok.is c.in-Missing.is)
