-- `all_entries` meets its contract: a walk over the items, with the entries of those passed counted. Assumes nothing.
use mathlib.Core.Path.{◌≡◌}
use Prim.Native.Nat.{ℕ, ◌+◌, ◌-◌}
use Rattle.book.specs.Book.{Row, row_entries, row_bytes}
use Rattle.shard.specs.Holds.{Holds}
use Rattle.shard.proofs.Walk.{Walk}
use Rattle.shard.proofs.all_entries.Given as goal

-- n entries were passed
abbrev pub Passed : Row → ℕ → Row → Type 0
Passed row n left = row_entries row ≡ n + row_entries left

abbrev pub invariant-loop-at : goal.invariant-loop-at
invariant-loop-at l = (row : Row) → Holds l.s row → Walk row_bytes 16 row l.at (Passed row l.n)

abbrev pub decreases-loop-at : goal.decreases-loop-at
decreases-loop-at l = l.end - l.at
