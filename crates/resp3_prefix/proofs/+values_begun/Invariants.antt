-- `resp3_prefix::values_begun`, which calls itself, meets its contract. The measure is the depth; the loop's invariant: what is left to read is the
-- whole. Assumes nothing.
use mathlib.Core.Path.{◌≡◌}
use Rattle.resp3_prefix.specs.Begun.{row_begun}
use Rattle.resp3_prefix.proofs.+values_begun.Given as goal

abbrev pub decreases-values_begun : goal.decreases-values_begun
decreases-values_begun l = l.depth

abbrev pub invariant-loop-left : goal.invariant-loop-left
invariant-loop-left l = row_begun l.depth l.s l.n l.at ≡ row_begun l.depth l.s l.left l.q
