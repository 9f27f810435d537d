-- `plan_check::is_plan` meets its contract. The loop's invariant: the bytes are a plan exactly if what is left where the walk stands is what has to follow.
-- Assumes nothing.
use mathlib.Core.Path.{sym, subst, ◌∙◌}
use native.Mathlib.Omega.{arith}
use Rattle.plan_check.specs.Start.{Reached, start-says, walk-starts, walk-on, check-start, check-refused, check-end}
use Rattle.plan_check.proofs.is_plan.Goals as goal

pub returns-then-not-start_ok : goal.returns-then-not-start_ok
returns-then-not-start_ok c = let a = c.args in sym (check-start a.plan.now (sym c.start_ok.ensures ∙ c.if-not-start_ok.true))

pub walk_start-w-requires : goal.walk_start-w-requires
walk_start-w-requires c =
    let a = c.args in
    (start-says a.plan.now (sym c.start_ok.ensures ∙ c.if-not-start_ok.false)).long

pub loop-w-init : goal.loop-w-init
loop-w-init c = let a = c.args in
    subst (Reached a.plan.now) (sym c.walk_start-w.ensures)
    (walk-starts a.plan.now (λ i. (c.type_inv.plan i).fits)
    (sym c.start_ok.ensures ∙ c.if-not-start_ok.false))

pub past_node-requires : goal.past_node-requires
past_node-requires c = c.loop-w.invariant.inside

pub returns-in_default : goal.returns-in_default
returns-in_default c = let a = c.args in
    let l = c.loop-w in
    sym (check-refused a.plan.now l.w l.invariant c.loop-w-test.true
    (sym c.past_node.ensures ∙ c.in_default.is))

pub loop-w-smaller : goal.loop-w-smaller
loop-w-smaller c = let a = c.args in
    let l = c.loop-w in
    let t = walk-on a.plan.now
    (λ i. (c.type_inv.plan i).fits) l.w _ l.invariant
    (sym c.past_node.ensures ∙ c.in-Some.is) in
    omega (arith, t.1, t.0.inside)

pub loop-w-preserved : goal.loop-w-preserved
loop-w-preserved c = let a = c.args in
    let l = c.loop-w in
    (walk-on a.plan.now (λ i. (c.type_inv.plan i).fits)
    l.w _ l.invariant (sym c.past_node.ensures ∙ c.in-Some.is)).0

pub returns : goal.returns
returns c = let a = c.args in
    let l = c.loop-w in
    c.walk_done.ensures ∙ check-end a.plan.now l.w l.invariant (omega (arith, c.loop-w-test.false))
