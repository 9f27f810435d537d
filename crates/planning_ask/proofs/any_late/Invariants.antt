-- `planning_ask::any_late` meets its contract. Assumes nothing.
use mathlib.Core.Path.{◌≡◌}
use Prim.Native.Nat.{◌-◌}
use Rattle.cursor.specs.At.{commands_at, CommandsIn}
use Rattle.planning.specs.Ask.{any_late}
use Rattle.planning_ask.proofs.any_late.Given as goal

abbrev pub invariant-loop : goal.invariant-loop
invariant-loop l =
    CommandsIn l.bytes (l.fn.k.left - l.counter) l.at
    × (any_late l.g l.clock (commands_at l.bytes l.fn.k.left l.fn.k.at) ≡ any_late l.g l.clock (commands_at l.bytes (l.fn.k.left - l.counter) l.at))
