-- `write_waiting` meets its contract: what is left is written behind what was. Assumes nothing.
use Prim.Native.Nat.{◌-◌}
use Rattle.buffer.specs.Copied.{Copied}
use Rattle.planning_places.specs.Pieces.{pieces}
use Rattle.planning_places.specs.Source as laws
use Rattle.planning_places.proofs.write_waiting.Given as goal

abbrev pub invariant-loop : goal.invariant-loop
invariant-loop l =
    laws.KeysIn l.src l.at (l.fn.n - l.counter) × Copied l.initial.dst l.to (pieces l.what (laws.keys_at l.src l.initial.at l.fn.n)) l.dst l.next (pieces l.what (laws.keys_at l.src l.at (l.fn.n - l.counter)))
