-- The setup that a size and an arena's length give (rule B2). Assumes nothing: these are definitions; `hash` stands for SipHash-1-3 with both key words zero.
use Rattle.std.specs.Prelude.{ℕ, ◌%◌}
use Rattle.buffer.specs.Same.{Bytes}
use Rattle.config.specs.declared.Settings.{Settings}
use Rattle.book.specs.Book.{Setup}

-- so many shards, of so many keys and bytes each; a key's shard is its hash modulo their number (rule B2)
unfoldable pub setup_of : (Bytes → ℕ) → ℕ → ℕ → ℕ → Setup
setup_of hash shards keys bytes = record { shards = shards; keys = keys; shard_of = λ k. hash k % shards; bytes = bytes }

-- what settings give that cause 1 let through
abbrev pub setup_for : (Bytes → ℕ) → Settings → Setup
setup_for hash g = setup_of hash g.shards g.keys g.bytes
