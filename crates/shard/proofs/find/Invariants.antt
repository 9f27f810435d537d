-- `find` meets its contract: a walk over the items, of which those passed do not have the key. Assumes nothing.
use mathlib.Core.Path.{◌≡◌}
use Prim.Native.Nat.{ℕ, ◌-◌}
use Rattle.buffer.specs.Same.{Bytes}
use Rattle.book.specs.Book.{Row, row_bytes}
use Rattle.shard.specs.Holds.{Holds}
use Rattle.shard.specs.Position.{position_from, position_of}
use Rattle.shard.proofs.Walk.{Walk}
use Rattle.shard.proofs.find.Given as goal

-- the key's item is where it is among the items that are left
abbrev pub Elsewhere : Bytes → Row → ℕ → Row → Type 0
Elsewhere k row at left = position_of k row ≡ position_from at k left

abbrev pub Seeking : Bytes → Row → ℕ → Type 0
Seeking k row at = Walk row_bytes 16 row at (Elsewhere k row at)

abbrev pub invariant-loop-at : goal.invariant-loop-at
invariant-loop-at l = (row : Row) → Holds l.s row → Seeking l.key row l.at

abbrev pub decreases-loop-at : goal.decreases-loop-at
decreases-loop-at l = l.end - l.at
