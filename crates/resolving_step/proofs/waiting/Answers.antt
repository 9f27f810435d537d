-- `resolving_step::waiting` meets its contract. Assumes nothing.
use Rattle.resolving_step.specs.Arms as arms
use native.Mathlib.Omega.{arith}
use Rattle.buffer.specs.Part.{part}
use Rattle.resolving_step.proofs.waiting.Goals as goal

pub returns-then-e-eq0 : goal.returns-then-e-eq0
returns-then-e-eq0 c = λ p w es rs b u l. arms.waiting-element p _ b _ _ w es rs l c.if-e-eq0.true

pub returns-then-pttl-eq0 : goal.returns-then-pttl-eq0
returns-then-pttl-eq0 c = λ p w es rs b u l. arms.waiting-pttl p _ b _ _ w es rs l c.if-e-eq0.false c.if-pttl-eq0.true

pub overflow_add-from : goal.overflow_add-from
overflow_add-from c =
    let q = arms.element-inside _ _ c.requires in
    omega (arith, q.0, q.1)

pub overflow_add-from-2 : goal.overflow_add-from-2
overflow_add-from-2 c =
    let q = arms.element-inside _ _ c.requires in
    omega (arith, q.0, q.1)

pub fetched-next-requires : goal.fetched-next-requires
fetched-next-requires c =
    let q = arms.element-inside _ _ c.requires in (
      c.requires.lists.replies.inside,
      omega
          (arith, q.0),
      q.1,
    )

pub returns : goal.returns
unfolding part
returns c =
    λ p w es rs b u l. arms.waiting-both p _ b _ _ _ _ _ _ w es rs u l c.if-e-eq0.false
    c.if-pttl-eq0.false c.next-after.ensures.value
    c.next-rest.ensures.value c.fetched-next.ensures
