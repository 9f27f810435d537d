-- `plan_check::walk_done` meets its contract. Assumes nothing.
use borrow.Author.Tests.{eq-eqb, ne_eqb}
use Rattle.plan_check.proofs.walk_done.Goals as goal

pub returns-then-w-ne0 : goal.returns-then-w-ne0
returns-then-w-ne0 c = rw (ne_eqb _ _ c.if-w-ne0.true)

pub returns-then-w-ne0-2 : goal.returns-then-w-ne0-2
returns-then-w-ne0-2 c = rw (eq-eqb _ _ c.if-w-ne0.false, ne_eqb _ _ c.if-w-ne0-2.true)

pub returns : goal.returns
returns c = rw (eq-eqb _ _ c.if-w-ne0.false, eq-eqb _ _ c.if-w-ne0-2.false)
