-- The joint table's sizes, and cause 1 at its borders. Assumes nothing.
use Rattle.std.specs.Prelude.{◌≡◌, refl, ℕ, ◌+◌, true, false}
use Rattle.config.specs.Limits.{max_size, max_arena}
use Rattle.config.specs.Config.{shard_count, shard_size, refused}

-- the shards and the keys of each, of a size
abbrev pub Sharded : ℕ → ℕ → ℕ → Type 0
Sharded size shards keys = (shard_count size ≡ shards) × (shard_size size ≡ keys)

pub sharded-31 : Sharded 31 1 31
sharded-31 = (refl, refl)

pub sharded-32 : Sharded 32 32 1
sharded-32 = (refl, refl)

pub sharded-63 : Sharded 63 32 1
sharded-63 = (refl, refl)

pub sharded-64 : Sharded 64 32 2
sharded-64 = (refl, refl)

-- size 0 is refused, and so is one more than the largest, which itself is fine
pub size-borders : (refused 0 0 4096 ≡ true) × (refused 1 0 4096 ≡ false) × (refused max_size 0 4096 ≡ false) × (refused (max_size + 1) 0 4096 ≡ true)
unfolding refused
size-borders = (refl, refl, refl, refl)

-- mode 1 is fine, 2 is refused
pub mode-borders : (refused 1 1 4096 ≡ false) × (refused 1 2 4096 ≡ true)
unfolding refused
mode-borders = (refl, refl)

-- an arena of 2^31 bytes is fine, one of a byte more is refused; so is one of a byte less than 64 for each shard
pub arena-borders :
    (refused 1 0 max_arena ≡ false) × (refused 1 0 (max_arena + 1) ≡ true) × (refused 31 0 64 ≡ false) × (refused 31 0 63 ≡ true)
    × (refused 32 0 2048 ≡ false) × (refused 32 0 2047 ≡ true)
unfolding refused
arena-borders = (refl, refl, refl, refl, refl, refl)
