-- `resolving_store::store_each` meets its contract. Assumes nothing.
use mathlib.Core.Path.{◌≡◌}
use mathlib.Core.List.{List}
use Prim.Native.Nat.{◌-◌}
use lib.ListN.{length}
use Rattle.resp3.specs.Value.{Values}
use Rattle.key_filter.specs.Filter.{Filters}
use Rattle.planning.specs.Plan.{Node}
use Rattle.resolving_walk.specs.Walk.{walk}
use Rattle.resolving_passes.specs.Passes.{Starts}
use Rattle.resolving_store.specs.Laws as law
use Rattle.resolving_store.proofs.store_each.Given as goal

abbrev pub invariant-loop-c : goal.invariant-loop-c
invariant-loop-c l =
    ((ns : List Node) (es rs : Values) → Starts l.plan l.list l.initial.c ns es rs
    → law.Kept l.g l.when.epoch l.plan l.list l.mode l.when.clock (walk l.mode l.when.clock ns es rs) l.c l.initial.arena l.arena l.refused)
    × Filters l.g l.arena l.seen × (length l.arena ≡ length l.initial.arena) × (length l.seen ≡ length l.initial.seen)

abbrev pub decreases-loop-c : goal.decreases-loop-c
decreases-loop-c l = length l.plan - l.c.at
