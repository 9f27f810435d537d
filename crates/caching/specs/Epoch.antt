-- A new epoch as the exported function is given it. Assumes nothing: this is a definition.
use Rattle.std.specs.Prelude.{ℕ, ◌+◌}
use Rattle.config.specs.Wrap.{wrap}
use Rattle.caching.specs.declared.epoch_call.RedisCacheEpoch.{RedisCacheEpoch}

-- it takes the next number, by a caller who holds it, and leaves the one after as the next, after 2^64 - 1 number 0; arena, counts and settings play no part
abbrev pub epoch_by : ℕ → RedisCacheEpoch
epoch_by next = record { epoch = next; next = wrap (next + 1) }
