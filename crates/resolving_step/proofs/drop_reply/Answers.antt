-- `resolving_step::drop_reply` meets its contract. Assumes nothing.
use mathlib.Core.Path.{refl}
use Rattle.resolving_step.specs.Arms as arms
use Rattle.resolving_step.proofs.drop_reply.Goals as goal

pub returns-then-at-eq0 : goal.returns-then-at-eq0
returns-then-at-eq0 c = λ es rs l. rw c.in-OptIn.is (arms.ready-stop _ _ es rs l c.if-at-eq0.true)

pub returns-in-All : goal.returns-in-All
returns-in-All c = λ es rs l. rw c.in-All.is (l, refl)

pub returns-else-at-eq0 : goal.returns-else-at-eq0
returns-else-at-eq0 c =
    λ es rs l. rw c.in-OptIn.is
    (arms.ready-go _ _ _ _ es rs l c.if-at-eq0.false c.next-rest.ensures.value c.with_reply.ensures)
