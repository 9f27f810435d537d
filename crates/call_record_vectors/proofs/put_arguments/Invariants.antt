-- `call_record_vectors::put_arguments` is safe by its loop's invariant. Assumes nothing.
use mathlib.Core.Path.{◌≡◌}
use Rattle.cursor.specs.At.{ArgsHere}
use Rattle.call_record_vectors.proofs.put_arguments.Given as goal

abbrev pub invariant-loop-arg : goal.invariant-loop-arg
invariant-loop-arg g l = (l.arg-iterator.bytes.now ≡ l.s) × ArgsHere l.s l.arg-iterator.rest
