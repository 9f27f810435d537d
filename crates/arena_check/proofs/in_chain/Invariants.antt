-- `arena_check::in_chain` meets its contract. The loop's invariant: the things of the chain behind c do not have the key. Assumes nothing.
use Prim.Native.Nat.{ℕ, ◌≤◌}
use Rattle.buffer.specs.Same.{Bytes}
use Rattle.arena_check.specs.Check.{key_in}
use Rattle.arena_check.specs.Chain.{Latest, Chains}
use Rattle.arena_check.proofs.Chains.{Left}
use Rattle.arena_check.proofs.in_chain.Given as goal

abbrev pub invariant-loop-c : goal.invariant-loop-c
invariant-loop-c g l =
    (l.c ≤ l.last)
    × ((mark : Bytes → ℕ) (keys : ℕ → Bytes) (k : ℕ) → Chains mark keys (key_in g.T.Thing.HEAD l.s) l.place l.prev k → Latest mark keys (mark (key_in g.T.Thing.HEAD l.s l.at)) l.last k
    → Left mark keys (key_in g.T.Thing.HEAD l.s l.at) k l.c)

abbrev pub decreases-loop-c : goal.decreases-loop-c
decreases-loop-c g l = l.c
