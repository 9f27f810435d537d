-- `key_filter::note_shard` meets its contract: a walk over the items, with the bits of those passed set. Assumes nothing.
use mathlib.Core.Path.{◌≡◌}
use Prim.Native.Nat.{◌-◌}
use lib.ListN.{length}
use Rattle.book.specs.Book.{Row, row_bytes}
use Rattle.shard.specs.Holds.{Holds}
use Rattle.shard.proofs.Walk.{Walk}
use Rattle.key_filter.specs.Filter.{Grows}
use Rattle.key_filter.proofs.Paths.{Left}
use Rattle.key_filter.proofs.note_shard.Given as goal

abbrev pub invariant-loop-at : goal.invariant-loop-at
invariant-loop-at l =
    Grows l.initial.seen l.seen × ((row : Row) → Holds l.s row → Walk row_bytes 16 row l.at (Left l.seen row)) × (length l.seen ≡ length l.initial.seen)

abbrev pub decreases-loop-at : goal.decreases-loop-at
decreases-loop-at l = l.end - l.at
