-- `command_key::joined_copy` meets its contract by its loop's invariant. Assumes nothing.
use mathlib.Core.Path.{◌≡◌}
use Rattle.cursor.specs.At.{args_of, ArgsHere}
use Rattle.buffer.specs.Copied as cop
use Rattle.command_key.specs.Key.{command_key}
use Rattle.command_key.proofs.joined_copy.Given as goal

abbrev pub invariant-loop-arg : goal.invariant-loop-arg
invariant-loop-arg l =
    let k = l.arg-iterator.rest in
    (l.arg-iterator.bytes.now ≡ l.s) × ArgsHere l.s k × cop.Copied l.initial.dst l.to (command_key (args_of l.s l.fn.k)) l.dst l.next (command_key (args_of l.s k))
