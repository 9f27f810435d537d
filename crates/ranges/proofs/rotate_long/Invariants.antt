-- `ranges::rotate_long` meets its contract. The loop's invariant: rotating what is left gives what rotating the whole would have given. Assumes nothing.
use mathlib.Core.Path.{◌≡◌}
use Prim.Native.Nat.{◌-◌, ◌≤◌}
use lib.ListN.{length}
use Rattle.buffer.specs.Move.{rotated}
use Rattle.ranges.proofs.rotate_long.Given as goal

abbrev pub invariant-loop-n : goal.invariant-loop-n
invariant-loop-n l = (l.f ≤ l.mid) × (l.mid ≤ l.e) × (l.e ≤ length l.s) × (length l.s ≡ length l.initial.s) × (rotated l.s l.f l.mid l.e ≡ rotated l.initial.s l.from l.mid l.end)

abbrev pub decreases-loop-n : goal.decreases-loop-n
decreases-loop-n l = l.e - l.f
