-- `resolving_passes::dry_pass` meets its contract. Assumes nothing.
use mathlib.Core.List.{List}
use Prim.Native.Nat.{◌-◌}
use lib.ListN.{length}
use Rattle.resp3.specs.Value.{Values}
use Rattle.planning.specs.Plan.{Node}
use Rattle.resolving_walk.specs.Walk.{walk}
use Rattle.resolving_passes.specs.Passes.{Starts}
use Rattle.resolving_passes.specs.Laws as law
use Rattle.resolving_passes.proofs.dry_pass.Given as goal

abbrev pub invariant-loop-c : goal.invariant-loop-c
invariant-loop-c l =
    (ns : List Node) (es rs : Values) → Starts l.plan l.list l.initial.c ns es rs → law.Dried l.plan l.list l.mode l.clock (walk l.mode l.clock ns es rs) l.c l.initial.r l.r

abbrev pub decreases-loop-c : goal.decreases-loop-c
decreases-loop-c l = length l.plan - l.c.at
