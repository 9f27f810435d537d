-- `call_record_vectors::unhex` is safe by its loop's invariant. Assumes nothing.
use Prim.Native.Nat.{◌+◌, ◌≤◌}
use Rattle.call_record_vectors.proofs.unhex.Given as goal

abbrev pub invariant-loop-digits : goal.invariant-loop-digits
invariant-loop-digits l =
    (goal.iterator-loop-digits).can_next l.digits-iterator
    × (goal.iterator-loop-digits).is_finite l.digits-iterator
    × (l.n + (goal.iterator-loop-digits).remaining l.digits-iterator ≤ (goal.iterator-loop-digits).remaining l.initial.digits-iterator)
