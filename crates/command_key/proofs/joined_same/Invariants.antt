-- `command_key::joined_same` meets its contract by its loop's invariant. Assumes nothing.
use mathlib.Core.Path.{◌≡◌}
use Prim.Native.Nat.{◌≤◌}
use lib.ListN.{length, drop}
use Rattle.buffer.specs.Same.{same}
use Rattle.cursor.specs.At.{args_of, ArgsHere}
use Rattle.command_key.specs.Key.{command_key}
use Rattle.command_key.proofs.joined_same.Given as goal

abbrev pub invariant-loop-arg : goal.invariant-loop-arg
invariant-loop-arg l =
    let k = l.arg-iterator.rest in
    (l.arg-iterator.bytes.now ≡ l.s) × ArgsHere l.s k × (l.done ≤ length l.t)
    × (same l.t (command_key (args_of l.s l.fn.k)) ≡ same (drop l.done l.t) (command_key (args_of l.s k)))
