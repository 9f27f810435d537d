-- Which bytes are an image, as a test: docs/LAYOUT.md, "Bytes are an image ..". The reader takes any bytes; they are an image exactly if what
-- was read is well-formed and is written as these bytes again. Assumes nothing: these are definitions, over a test `is_value` that stands for
-- "exactly one RESP3 value of at most 16 MiB that nests at most 16 deep".
use Rattle.std.specs.Prelude.{ℕ, zero, suc, ◌+◌, ◌*◌, ◌^◌, Bool, true, false, cond, List, [], ◌∷◌, map, length, drop, eqb, leb, ltb}
use Rattle.std.proofs.Math.Option.{Option, none, some}
use Rattle.buffer.specs.Same.{Bytes, same}
use Rattle.buffer.specs.Field.{read32, read64}
use Rattle.buffer.specs.Part.{part}
use Rattle.config.specs.Limits.{max_key, max_command_key}
use Rattle.book.specs.Book.{Setup, Entry, Item, Row, find, value_for, fits}
use Rattle.arena.specs.Layout.{encode}

-- ---- reading

unfoldable pub read_entry : Bytes → Entry
read_entry s = record { command = part s 16 (read32 s 0); value = part s (16 + read32 s 0) (read32 s 4) }

-- so many entries, one after the other
unfoldable pub read_entries : ℕ → Bytes → List Entry
read_entries zero s = []
read_entries (suc n) s = read_entry s ∷ read_entries n (drop (16 + read32 s 0 + read32 s 4) s)

unfoldable pub read_item : Bytes → Item
read_item s =
    record {
      key = part s 32 (read32 s 0);
      epoch = read64 s 8;
      expiry = read64 s 16;
      entries = read_entries (read32 s 4) (drop (32 + read32 s 0) s);
    }

-- so many items, one after the other
unfoldable pub read_items : ℕ → Bytes → Row
read_items zero s = []
read_items (suc n) s = read_item s ∷ read_items n (drop (32 + read32 s 0 + read32 s 24) s)

unfoldable pub read_shard : Bytes → Row
read_shard s = read_items (read32 s 0) (drop 16 s)

-- the row of each shard; beyond the shards there is nothing
unfoldable pub read_arena : Setup → Bytes → ℕ → Row
read_arena p s i = cond (ltb i p.shards) (read_shard (part s (i * p.bytes) p.bytes)) []

-- ---- "Bytes are an image, and not refused as cause 9, exactly if in every shard: ..": the tests, in LAYOUT's order

-- every one of these tests holds
unfoldable pub every : List Bool → Bool
every [] = true
every (b ∷ bs) = cond b (every bs) false

-- nothing was found
abbrev pub absent {ℓ} : {A : Type ℓ} → Option A → Bool
absent none = true
absent (some x) = false

-- "keys are distinct"
unfoldable pub distinct_keys : Row → Bool
distinct_keys [] = true
distinct_keys (it ∷ row) = every (absent (find it.key row) ∷ distinct_keys row ∷ [])

-- "the command keys of an item are distinct"
unfoldable pub distinct_commands : List Entry → Bool
distinct_commands [] = true
distinct_commands (en ∷ ens) = every (absent (value_for en.command ens) ∷ distinct_commands ens ∷ [])

module _ (is_value : Bytes → Bool) where
  -- what may be stored: "[keys] at most 65,535 bytes each", "[command keys] at most 16 MiB each; a value is exactly one RESP3 value of at most 16 MiB
  -- that nests at most 16 deep"
  unfoldable pub may_store : Bytes → Bytes → Bytes → Bool
  may_store k c v = every (leb (length k) max_key ∷ leb (length c) max_command_key ∷ is_value v ∷ [])

  -- every entry of an item may be stored; epoch and expiry are numbers of 64 bits
  unfoldable pub item_fits : Item → Bool
  item_fits it =
      every (ltb it.epoch (2 ^ 64) ∷ ltb it.expiry (2 ^ 64) ∷ every (map (λ en. may_store it.key en.command en.value) it.entries) ∷ [])

  module _ (p : Setup) where
    -- an item of shard s: "[keys] hash to their shard; every item has an entry; the command keys of an item are distinct"
    unfoldable pub item_fine : ℕ → Item → Bool
    item_fine s it = every (eqb (p.shard_of it.key) s ∷ leb 1 (length it.entries) ∷ distinct_commands it.entries ∷ item_fits it ∷ [])

    -- the row of shard s: "there are no more items than the shard's keys; keys are distinct", and the items are within the shard's bytes
    unfoldable pub row_fine : ℕ → Row → Bool
    row_fine s row = every (leb (length row) p.keys ∷ distinct_keys row ∷ every (map (item_fine s) row) ∷ fits p.bytes row ∷ [])

    -- the rows of the first n shards
    unfoldable pub rows_fine : ℕ → (ℕ → Row) → Bool
    rows_fine zero rows = true
    rows_fine (suc n) rows = every (row_fine n (rows n) ∷ rows_fine n rows ∷ [])

    -- the rows that were read are well-formed, and they are what these bytes say: "the counts and lengths are the true ones; .. all other
    -- bytes are zero"
    unfoldable pub is_image : Bytes → Bool
    is_image s = every (rows_fine p.shards (read_arena p s) ∷ same (encode p (length s) (read_arena p s)) s ∷ [])

    -- the rows of an image; nothing where the bytes are none, which is cause 9
    unfoldable pub decode : Bytes → Option (ℕ → Row)
    decode s = cond (is_image s) (some (read_arena p s)) none
