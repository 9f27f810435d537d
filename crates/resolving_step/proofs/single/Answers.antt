-- `resolving_step::single` meets its contract. Assumes nothing.
use Rattle.resolving_step.specs.Arms as arms
use Rattle.resolving_step.proofs.single.Goals as goal

pub returns-then-pttl-lt2 : goal.returns-then-pttl-lt2
returns-then-pttl-lt2 c = λ p w es rs b u l. arms.single-short p _ b _ _ w es rs l c.if-pttl-lt2.true

pub next-rest-requires : goal.next-rest-requires
next-rest-requires c = (arms.second-reply _ _ _ c.requires c.if-pttl-lt2.false c.next-reply.ensures.value).some

pub fetched-next-requires : goal.fetched-next-requires
fetched-next-requires c =
    let q = arms.second-reply _ _ _ c.requires c.if-pttl-lt2.false c.next-reply.ensures.value in
    (c.requires.lists.replies.inside, q.inside.order, q.inside.within)

pub returns : goal.returns
returns c =
    λ p w es rs b u l. arms.single-both p _ b _ _ _ _ _ _ _ w es rs u l c.if-pttl-lt2.false
    c.next-reply.ensures.value c.next-rest.ensures.value c.fetched-next.ensures c.with_reply.ensures
