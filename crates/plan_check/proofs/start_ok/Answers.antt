-- `plan_check::start_ok` meets its contract. Assumes nothing.
use mathlib.Core.Path.{sym, ◌∙◌}
use native.Mathlib.Omega.{arith}
use Rattle.resp3.specs.Value.{encode}
use Rattle.plan_check.specs.Paths.{start-short, start-flags, start-null, start-count}
use Rattle.plan_check.proofs.start_ok.Goals as goal

pub returns-then-plan-lt-PLAN_HEAD : goal.returns-then-plan-lt-PLAN_HEAD
returns-then-plan-lt-PLAN_HEAD c = let a = c.args in sym (start-short a.plan.now c.if-plan-lt-PLAN_HEAD.true)

pub returns-then-plan-gt1 : goal.returns-then-plan-gt1
returns-then-plan-gt1 c = let a = c.args in sym (start-flags a.plan.now c.if-plan-gt1.true)

pub null_at-requires : goal.null_at-requires
unfolding encode
null_at-requires c = omega arith

pub returns-then-not-null_at : goal.returns-then-not-null_at
unfolding encode
returns-then-not-null_at c =
    let a = c.args in
    sym (start-null a.plan.now (sym c.null_at.ensures ∙ c.if-not-null_at.true))

pub returns : goal.returns
unfolding encode
returns c =
    let a = c.args in
    start-count a.plan.now _ c.if-plan-lt-PLAN_HEAD.false c.if-plan-gt1.false
    (sym c.null_at.ensures ∙ c.if-not-null_at.false) c.read_u32.ensures
