-- `resolving_passes::answer_pass` meets its contract. Assumes nothing.
use mathlib.Core.Path.{refl, ◌∙◌}
use native.Mathlib.Omega.{arith}
use Rattle.resolving_passes.specs.Reached as reached
use Rattle.resolving_passes.specs.Laws as law
use Rattle.resolving_passes.proofs.answer_pass.Goals as goal

pub loop-w-init : goal.loop-w-init
loop-w-init c = (λ ns es rs h. law.write-start _ _ _ _ _ _ _ ns es rs h c.requires.1, refl)

pub step_at-requires : goal.step_at-requires
step_at-requires c =
    let b = c.requires.0 in
    let x = c.args in
    let w = c.loop-w.invariant.0 b.ns b.es b.rs b.starts in
    reached.step-ready _ _ x.mode x.clock _ w.reached.rest c.loop-w-test.true

pub unwrap-t-requires : goal.unwrap-t-requires
unwrap-t-requires c =
    let b = c.requires.0 in
    let w = c.loop-w.invariant.0 b.ns b.es b.rs b.starts in
    law.write-some _ _ _ _ _ _ _ _ _ _ _ c.loop-w-test.true c.step_at.ensures w

pub write_next-i-requires : goal.write_next-i-requires
write_next-i-requires c =
    let b = c.requires.0 in
    let w = c.loop-w.invariant.0 b.ns b.es b.rs b.starts in
    let t = law.write-ready _ _ _ _ _ _ _ _ _ _ _ c.loop-w-test.true (rw c.unwrap-t.ensures at c.step_at.ensures) w in
    (t.step.inside, t.fits)

pub loop-w-smaller : goal.loop-w-smaller
loop-w-smaller c =
    let b = c.requires.0 in
    let w = c.loop-w.invariant.0 b.ns b.es b.rs b.starts in
    let t = law.write-ready _ _ _ _ _ _ _ _ _ _ _ c.loop-w-test.true
    (rw c.unwrap-t.ensures at c.step_at.ensures) w in
    omega (arith, t.step.far, t.step.near)

pub loop-w-preserved : goal.loop-w-preserved
loop-w-preserved c = (
  λ ns es rs h. law.write_step _ _ _ _ _ _ _ _ _ _ _ _ _ c.loop-w-test.true
      (rw c.unwrap-t.ensures at c.step_at.ensures) c.write_next-i.ensures.0
      c.write_next-i.ensures.1
      (c.loop-w.invariant.0 ns es rs h),
  c.out-1.given
      ∙ c.loop-w.invariant.1,
)

pub shape_of-out : goal.shape_of-out
shape_of-out c = c.loop-w.invariant.1

pub returns : goal.returns
returns c = λ ns es rs h. law.write-end _ _ _ _ _ _ _ _ _ _ c.loop-w-test.false (c.loop-w.invariant.0 ns es rs h)
