-- `resolving_passes::dry_pass` meets its contract. Assumes nothing.
use mathlib.Core.Path.{sym, ap, ◌∙◌}
use Prim.Native.Nat.{ℕ}
use native.Mathlib.Omega.{arith}
use Rattle.std.specs.Prelude.{Option, is_some}
use Rattle.resolving_passes.specs.Passes.{dry_if}
use Rattle.resolving_passes.specs.Reached as reached
use Rattle.resolving_passes.specs.Laws as law
use Rattle.resolving_passes.proofs.dry_pass.Goals as goal

pub loop-c-init : goal.loop-c-init
loop-c-init c = λ ns es rs h. law.dry-start _ _ _ _ _ _ ns es rs h

pub step_at-requires : goal.step_at-requires
step_at-requires c =
    let b = c.requires in
    let x = c.args in
    let d = c.loop-c.invariant b.ns b.es b.rs b.starts in
    reached.step-ready _ _ x.mode x.clock _ d.at.rest c.loop-c-test.true

pub returns-in_default : goal.returns-in_default
returns-in_default c =
    let x = c.args in
    λ ns es rs h. law.dry-wrong _ _ _ _ _ _ _ _ c.loop-c-test.true
    (rw c.in_default.is at c.step_at.ensures)
    (c.loop-c.invariant ns es rs h)

pub next_size-requires : goal.next_size-requires
next_size-requires c =
    let b = c.requires in
    let x = c.args in
    let d = c.loop-c.invariant b.ns b.es b.rs b.starts in
    law.in_order x.plan.now x.list.now c.in-Some.t.next
    (reached.stepped _ _ _ _ _ _ _ _ _ d.at c.loop-c-test.true
    (rw c.in-Some.is at c.step_at.ensures)).inside

pub loop-c-smaller : goal.loop-c-smaller
loop-c-smaller c =
    let b = c.requires in
    let x = c.args in
    let d = c.loop-c.invariant b.ns b.es b.rs b.starts in
    let t = reached.stepped _ _ _ _ _ _ _ _ _ d.at c.loop-c-test.true
    (rw c.in-Some.is at c.step_at.ensures) in
    omega (arith, t.far, t.near)

pub loop-c-preserved : goal.loop-c-preserved
loop-c-preserved c =
    let x = c.args in
    λ ns es rs h. rw (c.spend-r.ensures, c.next_size.ensures)
    (law.dry-step _ _ _ _ _ _ _ _ _ c.loop-c-test.true
    (rw c.in-Some.is at c.step_at.ensures)
    (c.loop-c.invariant ns es rs h))

pub returns-in-Some-r : goal.returns-in-Some-r
returns-in-Some-r c =
    λ ns es rs h. ap (λ (o : Option ℕ). dry_if (is_some o)) (sym c.in-Some-r.is)
    ∙ law.dry-end _ _ _ _ _ _ _ _ c.loop-c-test.false (c.loop-c.invariant ns es rs h)

pub returns-in-None : goal.returns-in-None
returns-in-None c =
    λ ns es rs h. ap (λ (o : Option ℕ). dry_if (is_some o)) (sym c.in-None.is)
    ∙ law.dry-end _ _ _ _ _ _ _ _ c.loop-c-test.false (c.loop-c.invariant ns es rs h)
