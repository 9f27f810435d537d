-- `plan_check::past_node` meets its contract. Assumes nothing.
use mathlib.Core.Path.{sym, ap, ◌∙◌}
use Rattle.plan_check.specs.Check.{head_fine, followed}
use Rattle.plan_check.specs.Paths.{whole_says, parts-lie, step_cut, step-bad, step-on}
use Rattle.plan_check.proofs.past_node.Goals as goal

pub returns-then-not-whole_at : goal.returns-then-not-whole_at
returns-then-not-whole_at c = let a = c.args in sym (step_cut a.plan.now a.w (sym c.whole_at.ensures ∙ c.if-not-whole_at.true))

pub node_at-h-requires : goal.node_at-h-requires
node_at-h-requires c =
    let a = c.args in
    whole_says a.plan.now a.w.at (sym c.whole_at.ensures ∙ c.if-not-whole_at.false)

pub node_ok-requires : goal.node_ok-requires
node_ok-requires c =
    let a = c.args in
    parts-lie a.plan.now a.w.at _ (sym c.whole_at.ensures ∙ c.if-not-whole_at.false) c.node_at-h.ensures

pub returns-then-not-node_ok : goal.returns-then-not-node_ok
returns-then-not-node_ok c =
    let a = c.args in
    sym (step-bad a.plan.now a.w (sym c.whole_at.ensures ∙ c.if-not-whole_at.false)
    (ap (head_fine a.plan.now) (sym c.node_at-h.ensures) ∙ sym c.node_ok.ensures ∙ c.if-not-node_ok.true))

pub returns : goal.returns
returns c =
    let a = c.args in
    c.follow.ensures ∙ ap (followed a.w) c.node_at-h.ensures
    ∙ sym (step-on a.plan.now a.w
    (sym c.whole_at.ensures ∙ c.if-not-whole_at.false)
    (ap (head_fine a.plan.now) (sym c.node_at-h.ensures) ∙ sym c.node_ok.ensures
    ∙ c.if-not-node_ok.false))
