-- `planning_ask::ask_several` meets its contract. Assumes nothing.
use borrow.Author.Tests.{eq-eqb, ne_eqb}
use Rattle.planning_ask.proofs.ask_several.Goals as goal

pub returns-then-v-eq0 : goal.returns-then-v-eq0
returns-then-v-eq0 c = rw (eq-eqb _ 0 c.if-v-eq0.true)

pub returns : goal.returns
returns c = rw (ne_eqb _ 0 c.if-v-eq0.false)
