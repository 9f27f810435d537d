-- `arena_check::chained` meets its contract. The loop's invariant: of the things so far those among the first m are chained, and none has the key of one of
-- the first m before it. Assumes nothing.
use mathlib.Core.Path.{◌≡◌}
use Prim.Native.Nat.{ℕ, ◌-◌, ◌≤◌}
use lib.ListN.{length}
use Rattle.arena_check.specs.Home.{mark_of}
use Rattle.arena_check.specs.Walk.{nth}
use Rattle.arena_check.specs.Check.{key_in, next_in}
use Rattle.arena_check.specs.Chain.{keys_from, Apart}
use Rattle.arena_check.proofs.Chains.{Chaining}
use Rattle.arena_check.proofs.chained.Given as goal

-- how many of i things are among the first m
abbrev pub among : ℕ → ℕ → ℕ
among m i = i - (i - m)

abbrev pub invariant-loop-i : goal.invariant-loop-i
invariant-loop-i g l =
    (l.i ≤ l.n) × (l.at ≡ nth (next_in g.T.Thing.HEAD g.T.Thing.REST l.s) l.i l.first) × (l.end ≡ nth (next_in g.T.Thing.HEAD g.T.Thing.REST l.s) (among l.m l.i) l.first)
    × Chaining (mark_of l.top) l.top (key_in g.T.Thing.HEAD l.s) (next_in g.T.Thing.HEAD g.T.Thing.REST l.s) l.first l.m l.last l.prev l.place (among l.m l.i) × Apart (keys_from g.T.Thing.HEAD g.T.Thing.REST l.s l.first) l.m l.i
    × (length l.last ≡ length l.initial.last) × (length l.prev ≡ length l.initial.prev) × (length l.place ≡ length l.initial.place)
