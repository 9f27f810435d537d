-- The settings that each call is given, and what becomes of them: cause 1, the shards and what each shard has (rules G1, B1, C1 of docs/BEHAVIOUR.md). Assumes
-- nothing.
use Rattle.std.specs.Prelude.{ℕ, ◌*◌, ◌/◌, Bool, cond, ◌||◌, eqb, ltb, Result, Ok, Err}
use Rattle.config.specs.Limits.{max_size, max_mode, max_arena, max_shards, min_shard_bytes}
use Rattle.config.specs.declared.CacheMode.{CacheMode}
use Rattle.config.specs.declared.CacheMode.TheVariants.{All, OptIn}
use Rattle.config.specs.declared.Settings.{Settings}
use Rattle.config.specs.declared.Cause.{Cause}
use Rattle.config.specs.declared.Cause.TheVariants.{BadConfig}

-- how many shards a size makes: one while it is small, from 32 on 32
abbrev pub shard_count : ℕ → ℕ
shard_count size = cond (ltb size max_shards) 1 max_shards

-- how many keys a shard may hold: the whole size where it is the only one, else its thirty-second, rounded down
abbrev pub shard_size : ℕ → ℕ
shard_size size = cond (ltb size max_shards) size (size / max_shards)

-- the bytes of a shard, its header among them: arena length / shards, rounded down
abbrev pub shard_bytes : ℕ → ℕ → ℕ
shard_bytes size arena = arena / shard_count size

-- the mode that a number stands for: 0 All, 1 opt-in
abbrev pub mode_of : ℕ → CacheMode
mode_of mode = cond (eqb mode 0) All OptIn

-- cause 1 (C1): the tests in order are size too small, too large, no such mode, arena too long, arena too short for this many shards
unfoldable pub refused : ℕ → ℕ → ℕ → Bool
refused size mode arena = ltb size 1 || ltb max_size size || ltb max_mode mode || ltb max_arena arena || ltb arena (min_shard_bytes * shard_count size)

-- what a call works with, from the size, the mode's number, the default TTL and the arena's length that it is given
unfoldable pub settings_of : ℕ → ℕ → ℕ → ℕ → Settings
settings_of size mode ttl arena =
    record {
      mode = mode_of mode;
      ttl = ttl;
      shards = shard_count size;
      keys = shard_size size;
      bytes = shard_bytes size arena;
    }

-- the outcome of cause 1's test
unfoldable pub checked : ℕ → ℕ → ℕ → ℕ → Result Settings Cause
checked size mode ttl arena = cond (refused size mode arena) (Err BadConfig) (Ok (settings_of size mode ttl arena))
