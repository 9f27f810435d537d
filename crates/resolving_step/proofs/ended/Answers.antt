-- `resolving_step::ended` meets its contract. Assumes nothing.
use Rattle.resolving_step.specs.Arms as arms
use Rattle.resolving_step.proofs.ended.Goals as goal

pub returns-then-e-eq0 : goal.returns-then-e-eq0
returns-then-e-eq0 c = λ p es rs b l. arms.ends-element p _ b _ es rs l c.if-e-eq0.true

pub returns-then-pttl-eq0 : goal.returns-then-pttl-eq0
returns-then-pttl-eq0 c = λ p es rs b l. arms.ends-pttl p _ b _ es rs l c.if-pttl-eq0.true

pub returns : goal.returns
returns c =
    λ p es rs b l. arms.ends-both p _ b _ _ _ es rs l c.if-e-eq0.false c.if-pttl-eq0.false
    c.next-rest.ensures.value c.with_reply.ensures
