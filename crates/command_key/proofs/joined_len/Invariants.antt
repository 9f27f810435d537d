-- `command_key::joined_len` meets its contract by its loop's invariant. Assumes nothing.
use mathlib.Core.Path.{◌≡◌}
use Prim.Native.Nat.{◌+◌, ◌≤◌}
use lib.ListN.{length}
use Rattle.cursor.specs.At.{args_of, ArgsHere}
use Rattle.command_key.specs.Key.{command_key}
use Rattle.command_key.proofs.joined_len.Given as goal

abbrev pub invariant-loop-arg : goal.invariant-loop-arg
invariant-loop-arg l =
    let k = l.arg-iterator.rest in
    (l.arg-iterator.bytes.now ≡ l.s) × ArgsHere l.s k × (l.total + length (command_key (args_of l.s k)) ≡ length (command_key (args_of l.s l.fn.k))) × (l.total ≤ k.at)
