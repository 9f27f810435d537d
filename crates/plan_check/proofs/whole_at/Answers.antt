-- `plan_check::whole_at` meets its contract. Assumes nothing.
use mathlib.Core.Path.{sym}
use native.Mathlib.Omega.{arith}
use Rattle.plan_check.specs.Paths.{whole-short, whole-past, whole_parts}
use Rattle.plan_check.proofs.whole_at.Goals as goal

pub returns-then-plan-at-lt-NODE_HEAD : goal.returns-then-plan-at-lt-NODE_HEAD
returns-then-plan-at-lt-NODE_HEAD c = let a = c.args in sym (whole-short a.plan.now a.at (omega arith))

pub returns-then-rest-first : goal.returns-then-rest-first
returns-then-rest-first c = let a = c.args in sym (whole-past a.plan.now a.at (omega (arith, c.read_u32-first.ensures)))

pub returns : goal.returns
returns c =
    let a = c.args in
    whole_parts a.plan.now a.at _ _ _ (omega arith) c.read_u32-first.ensures c.read_u32.ensures (omega arith)
