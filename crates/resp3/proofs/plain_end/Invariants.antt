-- `resp3::plain_end` meets its contract: the bytes from `at` up to i are plain. Assumes nothing.
use mathlib.Core.Path.{◌≡◌}
use Prim.Native.Nat.{◌+◌, ◌≤◌, max}
use lib.ListN.{length, drop}
use Rattle.resp3.specs.Ends.{plain}
use Rattle.resp3.proofs.plain_end.Given as goal

abbrev pub invariant-loop-i : goal.invariant-loop-i
invariant-loop-i l = (l.i ≤ max l.at (length l.s)) × (l.at + plain (drop l.at l.s) ≡ l.i + plain (drop l.i l.s))
