-- `planning_ask::client_ttl` meets its contract. Assumes nothing.
use borrow.Author.Tests.{eq-eqb, ne_eqb}
use Rattle.planning_ask.proofs.client_ttl.Goals as goal

pub returns-then-flags-eq1 : goal.returns-then-flags-eq1
returns-then-flags-eq1 c = rw (eq-eqb _ 1 c.if-flags-eq1.true)

pub returns-else-flags-eq1 : goal.returns-else-flags-eq1
returns-else-flags-eq1 c = rw (ne_eqb _ 1 c.if-flags-eq1.false)
