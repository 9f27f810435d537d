-- `arena_check::many_distinct` meets its contract. The loop's invariant: the things of the blocks so far are apart from all behind them. Assumes nothing.
use mathlib.Core.Path.{◌≡◌}
use Prim.Native.Nat.{◌-◌, ◌≤◌}
use Rattle.arena_check.specs.Walk.{nth}
use Rattle.arena_check.specs.Check.{next_in}
use Rattle.arena_check.specs.Chain.{keys_from, Apart}
use Rattle.arena_check.proofs.many_distinct.Given as goal

abbrev pub invariant-loop-left : goal.invariant-loop-left
invariant-loop-left g l =
    (l.left ≤ l.n) × (l.at ≡ nth (next_in g.T.Thing.HEAD g.T.Thing.REST l.s) (l.n - l.left) l.first) × Apart (keys_from g.T.Thing.HEAD g.T.Thing.REST l.s l.first) (l.n - l.left) l.n

abbrev pub decreases-loop-left : goal.decreases-loop-left
decreases-loop-left g l = l.left
