-- Entries of an item that give way to one. Assumes nothing: these are definitions.
use Rattle.std.specs.Prelude.{◌≡◌, ℕ, ◌+◌, List, ◌++◌, length}
use Rattle.buffer.specs.Same.{Bytes}
use Rattle.book.specs.Book.{Entry, Item, Row, entry_bytes}
use Rattle.shard.specs.Holds.{Stands}

-- the item `it` of the shard s stands at `at`, between the items of front and back, and from `from` up to `to` stand its entries em, behind ef and
-- before eb: one entry where none is to be added, and none where one is
pub record Replaces (s : Bytes) (at from to added : ℕ) (front back : Row) (it : Item) (ef em eb : List Entry) : Type 0 where
  pub stands : Stands s at front back it
  pub splits : it.entries ≡ ef ++ (em ++ eb)
  pub starts : from ≡ at + 32 + length it.key + entry_bytes ef
  pub stops : to ≡ from + entry_bytes em
  pub one : added + length em ≡ 1

-- some do
pub record Replaceable (s : Bytes) (at from to added : ℕ) : Type 0 where
  pub front : Row
  pub back : Row
  pub item : Item
  pub ef : List Entry
  pub em : List Entry
  pub eb : List Entry
  pub replaces : Replaces s at from to added front back item ef em eb
