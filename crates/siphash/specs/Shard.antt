-- Which shard a key belongs to. Assumes nothing: this is a definition.
use Rattle.std.specs.Prelude.{ℕ, ◌%◌}
use Rattle.buffer.specs.Same.{Bytes}
use Rattle.siphash.specs.Sip.{sip_hash13}

-- the shard of a key: its hash modulo the number of shards
abbrev pub shard_of : Bytes → ℕ → ℕ
shard_of key shards = sip_hash13 key % shards
