-- `resolving_store::store_each` meets its contract. Assumes nothing.
use mathlib.Core.Path.{refl, ◌∙◌}
use native.Mathlib.Omega.{arith}
use Rattle.resolving_passes.specs.Reached as reached
use Rattle.resolving_store.specs.Laws as law
use Rattle.resolving_store.proofs.store_each.Goals as goal

pub loop-c-init : goal.loop-c-init
loop-c-init c = (λ ns es rs h. law.keep-start _ _ _ _ _ _ _ _ ns es rs h, c.requires.2, refl, refl)

pub step_at-requires : goal.step_at-requires
step_at-requires c =
    let b = c.requires.1 in
    let x = c.args in
    let k = c.loop-c.invariant.0 b.ns b.es b.rs b.starts in
    reached.step-ready _ _ x.mode x.when.clock _ k.reached.rest c.loop-c-test.true

pub shape_of-arena-in_default : goal.shape_of-arena-in_default
shape_of-arena-in_default c = c.loop-c.invariant.2

pub shape_of-seen-in_default : goal.shape_of-seen-in_default
shape_of-seen-in_default c = c.loop-c.invariant.3

pub returns-in_default : goal.returns-in_default
returns-in_default c =
    λ ns es rs h. law.keep-wrong _ _ _ _ _ _ _ _ _ _ _ c.loop-c-test.true (rw c.in_default.is at c.step_at.ensures)
    (c.loop-c.invariant.0 ns es rs h)

pub keep-refused-requires : goal.keep-refused-requires
keep-refused-requires c =
    let b = c.requires.1 in
    let l = c.loop-c in
    let k = l.invariant.0 b.ns b.es b.rs b.starts in
    let z = reached.stepped _ _ _ _ _ _ _ _ _ k.reached c.loop-c-test.true
    (rw c.in-Some.is at c.step_at.ensures) in
    (law.stores-arena _ _ _ _ _ _ k.stores c.requires.0, z.inside, z.storable, l.invariant.1)

pub overflow_add-refused : goal.overflow_add-refused
overflow_add-refused c =
    let b = c.requires.1 in
    let k = c.loop-c.invariant.0 b.ns b.es b.rs b.starts in
    let u = c.well_formed.1.1.0 in
    omega (arith, k.few, c.keep-refused.ensures.1, c.loop-c-test.true, u)

pub loop-c-smaller : goal.loop-c-smaller
loop-c-smaller c =
    let b = c.requires.1 in
    let k = c.loop-c.invariant.0 b.ns b.es b.rs b.starts in
    let z = reached.stepped _ _ _ _ _ _ _ _ _ k.reached c.loop-c-test.true
    (rw c.in-Some.is at c.step_at.ensures) in
    omega (arith, z.far, z.near)

pub loop-c-preserved : goal.loop-c-preserved
loop-c-preserved c = (
  λ ns es rs h. law.keep-step _ _ _ _ _ _ _ _ _ _ _ _ _ _ c.loop-c-test.true
      (rw c.in-Some.is at c.step_at.ensures)
      c.keep-refused.ensures.0 c.keep-refused.ensures.1
      (c.loop-c.invariant.0 ns es rs h),
  c.keep-refused.ensures.2,
  c.arena-1.given ∙ c.loop-c.invariant.2,
  c.seen-1.given ∙ c.loop-c.invariant.3,
)

pub shape_of-arena : goal.shape_of-arena
shape_of-arena c = c.loop-c.invariant.2

pub shape_of-seen : goal.shape_of-seen
shape_of-seen c = c.loop-c.invariant.3

pub returns : goal.returns
returns c = λ ns es rs h. law.keep-end _ _ _ _ _ _ _ _ _ _ _ c.loop-c-test.false (c.loop-c.invariant.0 ns es rs h)
