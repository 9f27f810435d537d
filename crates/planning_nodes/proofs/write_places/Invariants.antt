-- `write_places` meets its contract, key after key. Assumes nothing.
use Prim.Native.Nat.{◌-◌}
use Rattle.key_filter.specs.Filter.{Filters}
use Rattle.planning_nodes.specs.Places as laws
use Rattle.planning_nodes.proofs.write_places.Given as goal

abbrev pub invariant-loop : goal.invariant-loop
invariant-loop l =
    laws.Writing l.g l.when.clock l.when.epoch l.expiry l.bytes l.v l.initial.arena l.initial.plan l.initial.y l.k (l.fn.v.keys - l.counter) l.arena l.plan l.y × Filters l.g l.arena l.seen
