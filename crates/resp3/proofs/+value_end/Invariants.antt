-- `resp3::value_end`, which calls itself, meets its contract. The measure is the depth; the loop's invariant: what is left to read is the whole. Assumes nothing.
use mathlib.Core.Path.{◌≡◌}
use Prim.Native.Nat.{◌-◌}
use Rattle.resp3.specs.Ends.{value_end, items_end}
use Rattle.resp3.proofs.+value_end.Given as goal

abbrev pub decreases-value_end : goal.decreases-value_end
decreases-value_end l = l.depth

abbrev pub invariant-loop : goal.invariant-loop
invariant-loop l = value_end l.depth l.s l.at ≡ items_end (l.depth - 1) l.s (l.n - l.counter) l.q
