-- `resolving_step::hand_on` meets its contract. Assumes nothing.
use Rattle.resolving_step.specs.Arms as arms
use Rattle.resolving_step.proofs.hand_on.Goals as goal

pub returns-then-at-eq0 : goal.returns-then-at-eq0
returns-then-at-eq0 c = λ p es rs b l. arms.hand-none p _ b _ es rs l c.if-at-eq0.true

pub returns : goal.returns
returns c = λ p es rs b l. arms.hand-one p _ b _ _ _ es rs l c.if-at-eq0.false c.next-rest.ensures.value c.with_reply.ensures
