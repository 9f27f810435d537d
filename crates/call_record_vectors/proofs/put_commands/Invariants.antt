-- `call_record_vectors::put_commands` is safe by its loop's invariant. Assumes nothing.
use Rattle.cursor.specs.At.{CommandsHere}
use Rattle.call_record_vectors.proofs.put_commands.Given as goal

abbrev pub invariant-loop-h : goal.invariant-loop-h
invariant-loop-h g l = CommandsHere l.s l.k

abbrev pub decreases-loop-h : goal.decreases-loop-h
decreases-loop-h g l = l.k.left
