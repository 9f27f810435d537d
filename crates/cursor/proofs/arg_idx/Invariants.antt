-- `cursor::arg_idx` meets its contract by its loop's invariant. Assumes nothing.
use mathlib.Core.Path.{◌≡◌}
use Prim.Native.Nat.{◌-◌, ◌≤◌}
use Rattle.cursor.specs.At.{args_of, ArgsHere}
use Rattle.cursor.specs.Index as index
use Rattle.cursor.proofs.arg_idx.Given as goal

abbrev pub invariant-loop : goal.invariant-loop
invariant-loop l =
    ArgsHere l.s l.k × (index.arg_idx (args_of l.s l.fn.k) l.idx ≡ index.arg_idx_from l.before (args_of l.s l.k) (l.idx - l.counter)) × (l.before ≤ l.k.at)
