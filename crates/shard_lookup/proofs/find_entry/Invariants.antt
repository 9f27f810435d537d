-- `find_entry` meets its contract: a walk over the item's entries, of which those passed are not the command key's. Assumes nothing.
use mathlib.Core.Path.{◌≡◌}
use Prim.Native.Nat.{ℕ, ◌+◌, ◌-◌}
use mathlib.Core.List.{List}
use lib.ListN.{length}
use Rattle.buffer.specs.Same.{Bytes}
use Rattle.book.specs.Book.{Entry, Item, Row, entry_bytes}
use Rattle.command_key.specs.Key.{key_bytes}
use Rattle.shard.specs.Holds.{Stands}
use Rattle.shard.proofs.Walk.{Walk}
use Rattle.shard_lookup.specs.Entries.{entry_from, entry_of}
use Rattle.shard_lookup.proofs.find_entry.Given as goal

-- the command key's entry is where it is among the entries that are left
abbrev pub Elsewhere : ℕ → Bytes → Item → ℕ → List Entry → Type 0
Elsewhere at c it e left = entry_of at c it ≡ entry_from e c left

-- the walk over the item's entries
abbrev pub Seeking : ℕ → Bytes → Item → ℕ → Type 0
Seeking at c it e = Walk entry_bytes (at + 32 + length it.key) it.entries e (Elsewhere at c it e)

abbrev pub invariant-loop-e : goal.invariant-loop-e
invariant-loop-e l = (front back : Row) (it : Item) → Stands l.s l.at front back it → Seeking l.at (key_bytes l.source l.command) it l.e

abbrev pub decreases-loop-e : goal.decreases-loop-e
decreases-loop-e l = l.end - l.e
