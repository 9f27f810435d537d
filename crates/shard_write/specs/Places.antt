-- What the writers are lent: bytes with room, a shard with the room that a new item takes, an item with entries at a place. Assumes nothing: these are
-- definitions.
use Rattle.std.specs.Prelude.{◌≡◌, ℕ, ◌+◌, ◌-◌, ◌≤◌, List, ◌∷◌, ◌++◌, length}
use Rattle.buffer.specs.Same.{Bytes}
use Rattle.config.specs.Limits.{max_arena}
use Rattle.book.specs.Book.{Entry, Item, Row, entry_bytes, row_bytes}
use Rattle.arena.specs.Layout.{enc_shard}
use Rattle.arena.specs.Edit.{place_after}
use Rattle.arena.specs.Pieces.{item_of}
use Rattle.shard_write.specs.declared.Fields.{Fields}

-- an entry of this command key and value
abbrev pub new_entry : Bytes → Bytes → Entry
new_entry c v = record { command = c; value = v }

-- the bytes of an entry (rule B9)
abbrev pub entry_room : Bytes → Bytes → ℕ
entry_room c v = 16 + length c + length v

-- and of an item with one entry
abbrev pub item_room : Bytes → Bytes → Bytes → ℕ
item_room k c v = 32 + length k + entry_room c v

-- in n bytes, no more than an arena has, the bytes from `from` up to `to` can give way to m others where those from `to` up to `end` move
pub record Spliceable (n from to end m : ℕ) : Type 0 where
  pub ordered : from ≤ to
  pub inside : to ≤ end
  pub ends : end ≤ n
  pub room : from + m + (end - to) ≤ n
  pub short : n ≤ max_arena

-- the bytes s are the shard of the row, whose items end at `end`; with one more in front they are `count` and take `used` bytes
pub record Pushable (s : Bytes) (end count used : ℕ) (row : Row) (new : Item) : Type 0 where
  pub is : s ≡ enc_shard (length s) row
  pub ends : end ≡ place_after row
  pub items : count ≡ length (new ∷ row)
  pub bytes : used ≡ row_bytes (new ∷ row)

-- the shard s holds the items of front, then one of key k, epoch e and expiry x, then the items of back, up to `end`. That one stands at `at`, and
-- from `from` up to `to` stand its entries em, behind ef and before eb.
pub record EntriesAt (s : Bytes) (at from to end : ℕ) (front back : Row) (k : Bytes) (e x : ℕ) (ef em eb : List Entry) : Type 0 where
  pub is : s ≡ enc_shard (length s) (front ++ (item_of k e x (ef ++ (em ++ eb)) ∷ back))
  pub place : at ≡ place_after front
  pub starts : from ≡ at + 32 + length k + entry_bytes ef
  pub stops : to ≡ from + entry_bytes em
  pub ends : end ≡ place_after (front ++ (item_of k e x (ef ++ (em ++ eb)) ∷ back))

-- the fields are right for the item of key k with these entries, in the row between front and back
pub record Counts (f : Fields) (front back : Row) (k : Bytes) (e : ℕ) (ens : List Entry) : Type 0 where
  pub count : f.count ≡ length ens
  pub bytes : f.bytes ≡ entry_bytes ens
  pub used : f.used ≡ row_bytes (front ++ (item_of k e f.expiry ens ∷ back))
