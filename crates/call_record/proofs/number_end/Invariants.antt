-- `call_record::number_end` meets its contract by its loop's invariant. Assumes nothing.
use mathlib.Core.Path.{◌≡◌}
use Prim.Native.Nat.{◌+◌, ◌-◌, ◌≤◌}
use lib.ListN.{length}
use Rattle.format.specs.Places as laws
use Rattle.call_record.proofs.number_end.Given as goal

abbrev pub invariant-loop-k : goal.invariant-loop-k
invariant-loop-k l = (l.at + l.k ≤ length l.s) × (laws.number_end l.w l.max l.s l.at ≡ laws.number_end (l.w - l.k) l.room l.s (l.at + l.k))
