-- `oldest` meets its contract: a walk over the items, to the one at whose end the row ends. Assumes nothing.
use Prim.Native.Nat.{◌-◌}
use native.Mathlib.Omega.{arith}
use Rattle.book.specs.Book.{Row}
use Rattle.shard.specs.Holds.{Holds}
use Rattle.shard.proofs.Fields.{fields, used-read}
use Rattle.shard_store.proofs.Walk.{Standing, some_item, newest-stands, next-stands, oldest-stands, Reached}
use Rattle.shard_store.proofs.oldest.Given as goal

abbrev pub invariant-loop-next : goal.invariant-loop-next
invariant-loop-next l = (row : Row) → Holds l.s row → Reached l.s row l.at l.next

abbrev pub decreases-loop-next : goal.decreases-loop-next
decreases-loop-next l = l.end - l.next
