-- `cmd::write_arguments` meets its contract by its loop's invariant. Assumes nothing.
use mathlib.Core.Path.{◌≡◌}
use Rattle.buffer.specs.Copied as cop
use Rattle.cursor.specs.At.{args_of, ArgsHere}
use Rattle.cmd.specs.Pack.{texts, blob_bytes}
use Rattle.cmd.proofs.write_arguments.Given as goal

abbrev pub invariant-loop-arg : goal.invariant-loop-arg
invariant-loop-arg l =
    let k = l.arg-iterator.rest in
    (l.arg-iterator.bytes.now ≡ l.s) × ArgsHere l.s k
    × cop.Copied l.initial.dst l.to (blob_bytes (texts l.cursor (args_of l.s l.fn.k))) l.dst l.next (blob_bytes (texts l.cursor (args_of l.s k)))
