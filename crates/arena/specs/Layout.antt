-- The arena to the byte: docs/LAYOUT.md, "The arena", with each of its lines quoted above the definition that says it.
-- Numbers are little-endian, `le32` and `le64` of the crate buffer. Assumes nothing: these are definitions.
use Rattle.std.specs.Prelude.{ℕ, zero, suc, ◌+◌, ◌*◌, ◌-◌, List, [], ◌∷◌, ◌++◌, length, replicate}
use Rattle.buffer.specs.Same.{Bytes}
use Rattle.buffer.specs.Field.{le32, le64}
use Rattle.book.specs.Book.{Setup, Entry, Item, Row, entry_bytes, row_bytes}

-- so many zero bytes
abbrev pub zeros : ℕ → Bytes
zeros n = replicate n 0

-- the 16 bytes before an entry's and before a shard's own: two numbers and 8 zero bytes
unfoldable pub head : ℕ → ℕ → Bytes
head a b = le32 a ++ (le32 b ++ zeros 8)

-- the 32 bytes before an item's key:
-- "key length u32 | count of entries u32 | epoch u64 | expiry u64 | bytes of its entries u32 | 4 zero bytes"
unfoldable pub item_head : ℕ → ℕ → ℕ → ℕ → ℕ → Bytes
item_head key count epoch expiry bytes = le32 key ++ (le32 count ++ (le64 epoch ++ (le64 expiry ++ (le32 bytes ++ zeros 4))))

-- "entry: command key length u32 | value length u32 | 8 zero bytes | command key | value"
unfoldable pub enc_entry : Entry → Bytes
enc_entry en = head (length en.command) (length en.value) ++ (en.command ++ en.value)

-- entries one after the other
unfoldable pub enc_entries : List Entry → Bytes
enc_entries [] = []
enc_entries (en ∷ ens) = enc_entry en ++ enc_entries ens

-- "item: .. | key | entries"
unfoldable pub enc_item : Item → Bytes
enc_item it =
    item_head (length it.key) (length it.entries) it.epoch it.expiry (entry_bytes it.entries) ++ (it.key ++ enc_entries it.entries)

-- "items, newest first"
unfoldable pub enc_items : Row → Bytes
enc_items [] = []
enc_items (it ∷ row) = enc_item it ++ enc_items row

-- "shard: count of items u32 | bytes used after this header u32 | 8 zero bytes | items, newest first | zeros to the end", in n bytes
unfoldable pub enc_shard : ℕ → Row → Bytes
enc_shard n row = head (length row) (row_bytes row) ++ (enc_items row ++ zeros (n - (16 + row_bytes row)))

-- the first m shards, of n bytes each, one after the other: "Shard i has bytes i · L to (i + 1) · L - 1"
unfoldable pub enc_shards : ℕ → ℕ → (ℕ → Row) → Bytes
enc_shards n zero rows = []
enc_shards n (suc m) rows = enc_shards n m rows ++ enc_shard n (rows m)

-- the arena, in n bytes: "What is left over at the end is zero."
unfoldable pub encode : Setup → ℕ → (ℕ → Row) → Bytes
encode p n rows = enc_shards p.bytes p.shards rows ++ zeros (n - p.shards * p.bytes)
