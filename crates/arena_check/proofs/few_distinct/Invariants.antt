-- `arena_check::few_distinct` meets its contract. The loop's invariant: none of the things so far has the key of one before it. Assumes nothing.
use mathlib.Core.Path.{◌≡◌}
use Prim.Native.Nat.{◌≤◌}
use Rattle.arena_check.specs.Walk.{nth}
use Rattle.arena_check.specs.Check.{next_in}
use Rattle.arena_check.specs.Chain.{keys_from, Apart}
use Rattle.arena_check.proofs.few_distinct.Given as goal

abbrev pub invariant-loop-i : goal.invariant-loop-i
invariant-loop-i g l = (l.i ≤ l.n) × (l.at ≡ nth (next_in g.T.Thing.HEAD g.T.Thing.REST l.s) l.i l.first) × Apart (keys_from g.T.Thing.HEAD g.T.Thing.REST l.s l.first) l.n l.i
