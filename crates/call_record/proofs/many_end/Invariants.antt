-- `call_record::many_end` meets its contract by its loop's invariant. Assumes nothing.
use mathlib.Core.Path.{◌≡◌}
use Prim.Native.Nat.{ℕ, ◌-◌, ◌≤◌}
use Rattle.std.specs.Prelude.{Result}
use Rattle.format.specs.declared.Wrong.{Wrong}
use Rattle.call_record.specs.Paths.{Finds, many}
use Rattle.call_record.proofs.many_end.Given as goal

abbrev pub invariant-loop : goal.invariant-loop
invariant-loop g l = (m : ℕ) (one : ℕ → Result ℕ Wrong) → l.at ≤ m → Finds (goal.F-pre g l.end) (goal.F-post g l.end) m one
    → (l.i ≤ m) × (many one l.n l.at ≡ many one (l.n - l.counter) l.i)
