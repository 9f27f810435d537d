-- `push::invalidate_keys` meets its contract. The loop's invariant: what is left to do from the cursor on leads to the book after the whole push. Assumes
-- nothing.
use mathlib.Core.Path.{refl, ◌∙◌}
use native.Mathlib.Omega.{arith}
use Rattle.push.specs.Laws.{some-kept, kept-arena, next-less, going-standing, going_on, going_done}
use Rattle.push.proofs.invalidate_keys.Goals as goal

pub loop-c-init : goal.loop-c-init
loop-c-init c = (refl, λ vs bk st k. record { rest = vs; stands = st; book = bk; kept = k; leads = refl })

pub element-requires : goal.element-requires
element-requires c =
    let r = c.requires in
    (c.loop-c.invariant.1 r.1.values _ r.1.stands (some-kept _ _ _ r.0)).stands.inside

pub invalidate_key-sum-requires : goal.invalidate_key-sum-requires
invalidate_key-sum-requires c =
    let r = c.requires in
    kept-arena _ _ _ _ (c.loop-c.invariant.1 r.1.values _ r.1.stands (some-kept _ _ _ r.0)).kept

pub next-c-requires : goal.next-c-requires
next-c-requires c = c.loop-c-test.true

pub loop-c-smaller : goal.loop-c-smaller
loop-c-smaller c = let r = c.requires in
    let h = c.loop-c-test.true in
    next-less _ _ _ (λ e. omega (arith, e)) c.next-c.ensures.value
    (going-standing _ _ _ _ _ _
    (c.loop-c.invariant.1 r.1.values _ r.1.stands (some-kept _ _ _ r.0)))

pub loop-c-preserved : goal.loop-c-preserved
loop-c-preserved c = let l = c.loop-c in
    let h = c.loop-c-test.true in (
      c.invalidate_key-sum.auto.arena ∙ l.invariant.0,
      λ vs bk st k. going_on _ _ _ _ _ _ (l.invariant.1 vs bk st k) _ _ _ _ (λ e. omega (arith, e)) c.element.ensures.value
          c.next-c.ensures.value c.invalidate_key-sum.ensures,
    )

pub returns : goal.returns
returns c = λ vs bk st k. let h = c.loop-c-test.false in going_done _ _ _ _ _ _ (c.loop-c.invariant.1 vs bk st k) (omega arith)
