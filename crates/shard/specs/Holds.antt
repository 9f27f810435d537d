-- Bytes that hold a row: what every function of this crate is lent. Assumes nothing: these are definitions.
use Rattle.std.specs.Prelude.{◌≡◌, ℕ, ◌+◌, ◌≤◌, ◌∷◌, ◌++◌, length}
use Rattle.buffer.specs.Same.{Bytes}
use Rattle.config.specs.Limits.{max_arena}
use Rattle.book.specs.Book.{Item, Row, row_bytes}
use Rattle.book.specs.Sound.{Distinct}
use Rattle.arena.specs.Layout.{enc_shard}
use Rattle.arena.specs.Read.{Smalls}
use Rattle.arena.specs.Edit.{place_after}

-- the bytes s are the shard of this row: of the row's encoding, with room for it, no longer than an arena may be; the row's numbers fit their fields, and
-- it has no key twice. An arena that is an image has such shards.
pub record Holds (s : Bytes) (row : Row) : Type 0 where
  pub is : s ≡ enc_shard (length s) row
  pub room : 16 + row_bytes row ≤ length s
  pub short : length s ≤ max_arena
  pub fits : Smalls row
  pub distinct : Distinct row

-- the bytes are some row's shard
pub record Shard (s : Bytes) : Type 0 where
  pub row : Row
  pub holds : Holds s row

-- the shard s holds the items of front, then `it`, which stands at `at`, then the items of back
pub record Stands (s : Bytes) (at : ℕ) (front back : Row) (it : Item) : Type 0 where
  pub holds : Holds s (front ++ (it ∷ back))
  pub place : at ≡ place_after front

-- some item of the shard s stands at `at`
pub record ItemAt (s : Bytes) (at : ℕ) : Type 0 where
  pub front : Row
  pub back : Row
  pub item : Item
  pub stands : Stands s at front back item
