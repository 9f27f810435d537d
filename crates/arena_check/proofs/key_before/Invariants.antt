-- `arena_check::key_before` meets its contract. The loop's invariant: where the k-th thing stands, and that the search of what is left is the
-- whole search. Assumes nothing.
use mathlib.Core.Path.{◌≡◌}
use Prim.Native.Nat.{◌-◌, ◌≤◌}
use Rattle.arena_check.specs.Walk.{nth, before}
use Rattle.arena_check.specs.Check.{key_in, next_in}
use Rattle.arena_check.proofs.key_before.Given as goal

abbrev pub invariant-loop : goal.invariant-loop
invariant-loop g l =
    (l.counter ≤ l.n) × (l.p ≡ nth (next_in g.T.Thing.HEAD g.T.Thing.REST l.s) l.counter l.from)
    × (before (key_in g.T.Thing.HEAD l.s) (next_in g.T.Thing.HEAD g.T.Thing.REST l.s) l.n l.from l.at ≡ before (key_in g.T.Thing.HEAD l.s) (next_in g.T.Thing.HEAD g.T.Thing.REST l.s) (l.n - l.counter) l.p l.at)
