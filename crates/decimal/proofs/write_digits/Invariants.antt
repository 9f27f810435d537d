-- `decimal::write_digits` meets its contract. The loop's invariant: the last digits are written (`Written`). Assumes nothing.
use Prim.Native.Nat.{◌≤◌, ◌+◌}
use mathlib.Core.Path.{◌≡◌}
use lib.ListN.{length}
use Rattle.decimal.specs.Digits.{digits}
use Rattle.decimal.proofs.Written.{Written}
use Rattle.decimal.proofs.write_digits.Given as goal

abbrev pub invariant-loop-i : goal.invariant-loop-i
invariant-loop-i l = (l.at ≤ l.i) × (l.end ≡ l.at + length (digits l.v)) × Written l.initial.dst l.at l.v l.w l.i l.dst
