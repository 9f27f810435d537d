-- `sharded_lru::invalidate_all` meets its contract. The loop's invariant: so many shards are empty, and n entries are dropped. Assumes nothing.
use mathlib.Core.Path.{◌≡◌}
use Prim.Native.Nat.{ℕ}
use lib.ListN.{length}
use Rattle.book.specs.Book.{Row, all_entries}
use Rattle.sharded_lru.specs.Lent.{Lent}
use Rattle.sharded_lru.proofs.Clears.{cleared}
use Rattle.sharded_lru.proofs.invalidate_all.Given as goal

abbrev pub invariant-loop-i : goal.invariant-loop-i
invariant-loop-i l =
    ((rows : ℕ → Row) → Lent l.g l.initial.arena rows → Lent l.g l.arena (cleared l.i rows) × (l.n ≡ all_entries l.i rows)) × (length l.arena ≡ length l.initial.arena)
