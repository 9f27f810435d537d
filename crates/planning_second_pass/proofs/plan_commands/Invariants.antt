-- `planning_second_pass::plan_commands` meets its contract. Assumes nothing.
use Prim.Native.Nat.{◌-◌}
use Rattle.key_filter.specs.Filter.{Filters}
use Rattle.planning_second_pass.specs.Going as laws
use Rattle.planning_second_pass.proofs.plan_commands.Given as goal

abbrev pub invariant-loop : goal.invariant-loop
invariant-loop l =
    laws.Going l.g l.when.clock l.when.epoch l.bytes l.fn.k.left l.initial.at l.initial.arena l.initial.plan l.initial.send l.initial.y (l.fn.k.left - l.counter) l.at l.arena l.plan l.send l.y × Filters l.g l.arena l.seen
