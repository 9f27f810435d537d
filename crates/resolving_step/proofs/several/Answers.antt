-- `resolving_step::several` meets its contract. Assumes nothing.
use Rattle.std.specs.Prelude.{Option}
use Rattle.resolving_step.specs.Arms as arms
use mathlib.Core.Path.{subst}
use Rattle.resp3_element.specs.declared.Cursor.{Cursor}
use Rattle.resp3_element.specs.Meaning.{array_of, Holds}
use Rattle.resolving_step.proofs.several.Goals as goal

pub returns-then-at-eq0 : goal.returns-then-at-eq0
returns-then-at-eq0 c = λ p es rs b l. arms.several-none p _ b _ _ es rs l c.if-at-eq0.true

pub returns-in_default : goal.returns-in_default
returns-in_default c =
    λ p es rs b l. arms.several-no p _ b _ _ _ es rs l c.element.ensures.value
    (λ v m. subst (λ (r : Option Cursor). Holds c.element.result.now r (array_of v)) c.in_default.is
    (c.array.ensures.value v m))

pub returns : goal.returns
returns c =
    λ p es rs b l. arms.several-of p _ b _ _ _ _ _ es rs l c.if-at-eq0.false
    c.element.ensures.value
    (λ v m. subst (λ (r : Option Cursor). Holds c.element.result.now r (array_of v))
    c.in-Some.is (c.array.ensures.value v m)) c.next-rest.ensures.value
