-- `resolving_step::element_part` meets its contract. Assumes nothing.
use mathlib.Core.Path.{refl}
use native.Mathlib.Omega.{arith}
use Rattle.buffer.specs.Part.{part}
use Rattle.resolving_step.proofs.element_part.Goals as goal

pub slice_bounds-result-count : goal.slice_bounds-result-count
slice_bounds-result-count c = let p = rw c.in-Plan.is at rw c.in-Some.is at c.requires in omega (arith, p.0)

pub slice_bounds-result-start : goal.slice_bounds-result-start
slice_bounds-result-start c = let p = rw c.in-Plan.is at rw c.in-Some.is at c.requires in omega (arith, p.0)

pub slice_bounds-result-end-in-Plan : goal.slice_bounds-result-end-in-Plan
slice_bounds-result-end-in-Plan c = let p = rw c.in-Plan.is at rw c.in-Some.is at c.requires in omega (arith, p.1)

pub slice_bounds-result-count-in-Reply : goal.slice_bounds-result-count-in-Reply
slice_bounds-result-count-in-Reply c = let p = rw c.in-Reply.is at rw c.in-Some.is at c.requires in omega (arith, p.0)

pub slice_bounds-result-start-in-Reply : goal.slice_bounds-result-start-in-Reply
slice_bounds-result-start-in-Reply c = let p = rw c.in-Reply.is at rw c.in-Some.is at c.requires in omega (arith, p.0)

pub slice_bounds-result-end-in-Reply : goal.slice_bounds-result-end-in-Reply
slice_bounds-result-end-in-Reply c = let p = rw c.in-Reply.is at rw c.in-Some.is at c.requires in omega (arith, p.1)

pub slice_bounds-result-count-in-Keep : goal.slice_bounds-result-count-in-Keep
slice_bounds-result-count-in-Keep c = let p = rw c.in-Keep.is at rw c.in-Some.is at c.requires in omega (arith, p.0)

pub slice_bounds-result-start-in-Keep : goal.slice_bounds-result-start-in-Keep
slice_bounds-result-start-in-Keep c = let p = rw c.in-Keep.is at rw c.in-Some.is at c.requires in omega (arith, p.0)

pub slice_bounds-result-end-in-Keep : goal.slice_bounds-result-end-in-Keep
slice_bounds-result-end-in-Keep c = let p = rw c.in-Keep.is at rw c.in-Some.is at c.requires in omega (arith, p.1)

pub returns-in-Plan : goal.returns-in-Plan
unfolding part
returns-in-Plan c = rw (c.in-Some.is, c.in-Plan.is) (record { bytes = refl; place = (refl, refl) })

pub returns-in-Reply : goal.returns-in-Reply
unfolding part
returns-in-Reply c = rw (c.in-Some.is, c.in-Reply.is) (record { bytes = refl; place = (refl, refl) })

pub returns-in-Keep : goal.returns-in-Keep
unfolding part
returns-in-Keep c = rw (c.in-Some.is, c.in-Keep.is) (record { bytes = refl; place = (refl, refl) })

pub returns-in-Head : goal.returns-in-Head
returns-in-Head c = rw (c.in-Some.is, c.in-Head.is) (record { bytes = refl; place = (refl, omega arith) })

pub returns-in-Pass : goal.returns-in-Pass
returns-in-Pass c = rw (c.in-Some.is, c.in-Pass.is) (record { bytes = refl; place = (refl, omega arith) })

pub returns-in_default : goal.returns-in_default
returns-in_default c = rw c.in_default.is (record { bytes = refl; place = (refl, omega arith) })
