-- `plan_check::places_ok` meets its contract. Assumes nothing.
use borrow.Author.Tests.{eq-eqb, ne_eqb}
use Rattle.plan_check.proofs.places_ok.Goals as goal

pub returns-then-first-ne0 : goal.returns-then-first-ne0
returns-then-first-ne0 c = rw (ne_eqb _ _ c.if-first-ne0.true)

pub returns-then-second-ne0 : goal.returns-then-second-ne0
returns-then-second-ne0 c = rw (eq-eqb _ _ c.if-first-ne0.false, ne_eqb _ _ c.if-second-ne0.true)

pub returns : goal.returns
returns c = rw (eq-eqb _ _ c.if-first-ne0.false, eq-eqb _ _ c.if-second-ne0.false)
