-- `plan_check::is_plan` meets its contract. The loop's invariant: the bytes are a plan exactly if what is left where the walk stands is what has to follow.
-- Assumes nothing.
use Prim.Native.Nat.{◌-◌}
use lib.ListN.{length}
use Rattle.plan_check.specs.Start.{Reached}
use Rattle.plan_check.proofs.is_plan.Given as goal

abbrev pub invariant-loop-w : goal.invariant-loop-w
invariant-loop-w l = Reached l.plan l.w

abbrev pub decreases-loop-w : goal.decreases-loop-w
decreases-loop-w l = length l.plan - l.w.at
