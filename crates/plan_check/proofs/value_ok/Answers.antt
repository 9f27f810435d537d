-- `plan_check::value_ok` meets its contract. Assumes nothing.
use mathlib.Core.Path.{◌∙◌}
use borrow.Author.Tests.{eq-eqb, ne_eqb}
use Rattle.plan_check.proofs.value_ok.Goals as goal

pub returns-then-second-ne0 : goal.returns-then-second-ne0
returns-then-second-ne0 c = rw (ne_eqb _ _ c.if-second-ne0.true)

pub returns-then-number-ne0 : goal.returns-then-number-ne0
returns-then-number-ne0 c = rw (eq-eqb _ _ c.if-second-ne0.false, ne_eqb _ _ c.if-number-ne0.true)

pub returns : goal.returns
returns c = c.is_value.ensures ∙ rw (eq-eqb _ _ c.if-second-ne0.false, eq-eqb _ _ c.if-number-ne0.false)
