-- `decimal::digits_at` meets its contract. What stands from i on, behind digits of value v, is read as what stands at `at`; v is within
-- the limit. Assumes nothing.
use Prim.Native.Nat.{◌≤◌, ◌+◌, ◌-◌}
use mathlib.Core.Path.{◌≡◌}
use lib.ListN.{length, drop}
use Rattle.decimal.specs.Read.{lead, val_acc}
use Rattle.decimal.proofs.digits_at.Given as goal

abbrev pub invariant-loop-i : goal.invariant-loop-i
invariant-loop-i l =
    (l.at ≤ l.i) × (l.i ≤ length l.s) × (l.v ≤ l.lim)
    × (l.at + lead (drop l.at l.s) ≡ l.i + lead (drop l.i l.s)) × (val_acc 0 (drop l.at l.s) ≡ val_acc l.v (drop l.i l.s))

abbrev pub decreases-loop-i : goal.decreases-loop-i
decreases-loop-i l = length l.s - l.i
