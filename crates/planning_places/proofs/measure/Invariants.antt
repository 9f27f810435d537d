-- `measure` meets its contract: what is left and what was measured come to the whole. Assumes nothing.
use Prim.Native.Nat.{◌-◌}
use Rattle.planning_places.specs.Measure as laws
use Rattle.planning_places.proofs.measure.Given as goal

abbrev pub invariant-loop : goal.invariant-loop
invariant-loop l = laws.Measuring l.g l.arena l.bytes l.v l.when.clock l.when.epoch l.initial.k l.fn.v.keys l.k (l.fn.v.keys - l.counter) l.m
