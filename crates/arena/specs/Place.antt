-- Where a stored value stands: the place of the first byte of the value that key k has for command key c, in its shard's bytes and in the whole arena,
-- given the rows. It follows docs/LAYOUT.md from the shard's header on. Where there is no such value the number means nothing. Assumes nothing: these are
-- definitions.
use Rattle.std.specs.Prelude.{ℕ, ◌+◌, ◌*◌, cond, List, [], ◌∷◌, length}
use Rattle.buffer.specs.Same.{Bytes, same}
use Rattle.book.specs.Book.{Setup, Entry, Row, entry_bytes}

-- among the bytes of some entries: the entries before it, then its entry's 16 bytes of head and command key
unfoldable pub entries_place : Bytes → List Entry → ℕ
entries_place c [] = 0
entries_place c (en ∷ ens) =
    cond (same c en.command) (16 + length en.command) (16 + length en.command + length en.value + entries_place c ens)

-- among the bytes of some items: the items before it, then its item's 32 bytes of head and key
unfoldable pub items_place : Bytes → Bytes → Row → ℕ
items_place k c [] = 0
items_place k c (it ∷ row) =
    cond (same k it.key) (32 + length it.key + entries_place c it.entries)
    (32 + length it.key + entry_bytes it.entries + items_place k c row)

-- in a shard: behind its 16 bytes of header
unfoldable pub shard_place : Bytes → Bytes → Row → ℕ
shard_place k c row = 16 + items_place k c row

-- in the arena: in the key's shard
unfoldable pub arena_place : Setup → Bytes → Bytes → (ℕ → Row) → ℕ
arena_place p k c rows = p.shard_of k * p.bytes + shard_place k c (rows (p.shard_of k))
