-- `cmd::args_len` meets its contract by its loop's invariant. Assumes nothing.
use mathlib.Core.Path.{◌≡◌}
use Prim.Native.Nat.{◌+◌, ◌-◌, ◌*◌, ◌≤◌}
use lib.ListN.{length}
use Rattle.cursor.specs.At.{args_of, ArgsHere}
use Rattle.cmd.specs.Pack.{texts, packed, blob_bytes}
use Rattle.cmd.proofs.args_len.Given as goal

abbrev pub invariant-loop-arg : goal.invariant-loop-arg
invariant-loop-arg l =
    let k = l.arg-iterator.rest in
    (l.arg-iterator.bytes.now ≡ l.s) × ArgsHere l.s k
    × (l.total + length (blob_bytes (texts l.cursor (args_of l.s k))) ≡ length (packed (texts l.cursor (args_of l.s l.fn.k))))
    × (l.total ≤ 23 + 45 * (l.fn.k.left - k.left) + k.at) × (k.left ≤ l.fn.k.left)
