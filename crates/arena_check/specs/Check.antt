-- The image check by places: what the code of this crate tests, in its order. Law.antt shows that it is the crate arena's `is_image`.
-- Assumes nothing: these are definitions.
use Rattle.std.specs.Prelude.{ℕ, zero, suc, ◌+◌, ◌*◌, Bool, true, [], ◌∷◌, length, drop, eqb, leb, Option, Some}
use Rattle.std.specs.Option.{option_eq}
use Rattle.buffer.specs.Same.{Bytes}
use Rattle.buffer.specs.Field.{read32}
use Rattle.buffer.specs.Part.{part}
use Rattle.buffer.specs.Zero.{all_zero}
use Rattle.config.specs.Limits.{max_key, max_command_key}
use Rattle.book.specs.Book.{Setup}
use Rattle.arena.specs.Decode.{every}
use Rattle.arena_check.specs.Walk.{walk}

-- ---- a thing that stands at `at`, with a head of h bytes: its key's length at the head's start, the length of what follows its key at f

abbrev pub key_in : ℕ → Bytes → ℕ → Bytes
key_in h s at = part s (at + h) (read32 s at)

abbrev pub next_in : ℕ → ℕ → Bytes → ℕ → ℕ
next_in h f s at = at + h + read32 s at + read32 s (at + f)

-- ---- the entry that stands at `at`

abbrev pub command_at : Bytes → ℕ → Bytes
command_at s at = key_in 16 s at

abbrev pub value_at : Bytes → ℕ → Bytes
value_at s at = part s (at + 16 + read32 s at) (read32 s (at + 4))

-- where it ends
abbrev pub entry_next : Bytes → ℕ → ℕ
entry_next s at = next_in 16 4 s at

-- ---- the item that stands at `at`

abbrev pub key_at : Bytes → ℕ → Bytes
key_at s at = key_in 32 s at

-- where its entries begin, and where it ends
abbrev pub entries_at : Bytes → ℕ → ℕ
entries_at s at = at + 32 + read32 s at

abbrev pub item_next : Bytes → ℕ → ℕ
item_next s at = next_in 32 24 s at

-- it is within `end`, by its lengths
unfoldable pub item_within : Bytes → ℕ → ℕ → Bool
item_within s end at = every (leb (at + 32) end ∷ leb (item_next s at) end ∷ [])

-- they end, and there
abbrev pub ends : Option ℕ → ℕ → Bool
ends e at = option_eq eqb e (Some at)

module _ (is_value : Bytes → Bool) where
  -- an entry stands there, within `end`
  unfoldable pub entry_ok : Bytes → ℕ → ℕ → Bool
  entry_ok s end at =
      every (leb (at + 16) end ∷ leb (entry_next s at) end ∷ all_zero (part s (at + 8) 8) ∷ leb (read32 s at) max_command_key ∷ is_value (value_at s at) ∷ [])

  -- where n entries end that stand from `first` on, within `end`, where they do and no command key is there twice
  unfoldable pub entries_end : Bytes → ℕ → ℕ → ℕ → Option ℕ
  entries_end s end n first = walk (command_at s) (entry_next s) (entry_ok s end) first 0 n first

  -- `home` is the number of a key's shard
  module _ (home : Bytes → ℕ) where
    -- an item of the shard of that number stands there, within `end`
    unfoldable pub item_ok : Bytes → ℕ → ℕ → ℕ → Bool
    item_ok s shard end at =
        every (
        leb (at + 32) end
        ∷ leb (item_next s at) end
        ∷ all_zero (part s (at + 28) 4)
        ∷ leb (read32 s at) max_key
        ∷ eqb (home (key_at s at)) shard
        ∷ leb 1 (read32 s (at + 4))
        ∷ ends (entries_end s (item_next s at) (read32 s (at + 4)) (entries_at s at)) (item_next s at)
        ∷ []
        )

    -- where n items end that stand from byte 16 on, within `end`, where they do and no key is there twice
    unfoldable pub items_end : Bytes → ℕ → ℕ → ℕ → Option ℕ
    items_end s shard end n = walk (key_at s) (item_next s) (item_ok s shard end) 16 0 n 16

    -- the bytes are those of the shard of that number, which holds so many keys
    unfoldable pub shard_ok : ℕ → Bytes → ℕ → Bool
    shard_ok keys s shard =
        every (
        leb (read32 s 0) keys
        ∷ leb (16 + read32 s 4) (length s)
        ∷ all_zero (part s 8 8)
        ∷ all_zero (drop (16 + read32 s 4) s)
        ∷ ends (items_end s shard (16 + read32 s 4) (read32 s 0)) (16 + read32 s 4)
        ∷ []
        )

    -- so for the first n shards, of that many keys and bytes each
    unfoldable pub shards_ok : ℕ → ℕ → Bytes → ℕ → Bool
    shards_ok keys bytes s zero = true
    shards_ok keys bytes s (suc n) = every (shard_ok keys (part s (n * bytes) bytes) n ∷ shards_ok keys bytes s n ∷ [])

  -- the whole arena, with what is left over
  unfoldable pub arena_ok : Setup → Bytes → Bool
  arena_ok p s = every (all_zero (drop (p.shards * p.bytes) s) ∷ shards_ok p.shard_of p.keys p.bytes s p.shards ∷ [])
