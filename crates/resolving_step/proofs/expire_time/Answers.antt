-- `resolving_step::expire_time` meets its contract. Assumes nothing.
use Rattle.resolving_step.proofs.Signed as signed
use borrow.Author.Rules.{rules}
use Rattle.resolving_step.proofs.expire_time.Goals as goal

pub returns-then-t-le0 : goal.returns-then-t-le0
returns-then-t-le0 c = signed.no-time _ _ _ _ c.in-Some.is (search rules) c.if-t-le0.true

pub overflow_cast-t : goal.overflow_cast-t
overflow_cast-t c = signed.casts c.in-Some.t (search rules) c.if-t-le0.false

pub returns : goal.returns
returns c =
    signed.some-time _ _ _ _ _ c.in-Some.is (search rules)
    c.if-t-le0.false c.sooner.ensures
