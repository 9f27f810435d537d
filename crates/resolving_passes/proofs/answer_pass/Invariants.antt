-- `resolving_passes::answer_pass` meets its contract. Assumes nothing.
use mathlib.Core.Path.{◌≡◌}
use mathlib.Core.List.{List}
use Prim.Native.Nat.{◌-◌}
use lib.ListN.{length}
use Rattle.resp3.specs.Value.{Values}
use Rattle.planning.specs.Plan.{Node}
use Rattle.resolving_walk.specs.Walk.{walk}
use Rattle.resolving_passes.specs.Passes.{Starts}
use Rattle.resolving_passes.specs.Laws as law
use Rattle.resolving_passes.proofs.answer_pass.Given as goal

abbrev pub invariant-loop-w : goal.invariant-loop-w
invariant-loop-w l =
    ((ns : List Node) (es rs : Values) → Starts l.plan l.list l.initial.w ns es rs → law.Written l.plan l.list l.mode l.clock (walk l.mode l.clock ns es rs) l.w l.at l.i l.initial.out l.out)
    × (length l.out ≡ length l.initial.out)

abbrev pub decreases-loop-w : goal.decreases-loop-w
decreases-loop-w l = length l.plan - l.w.at
