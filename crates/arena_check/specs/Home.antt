-- A key's shard, by its hash, and its mark. Assumes nothing: these are definitions.
use Rattle.std.specs.Prelude.{ℕ, ◌+◌, ◌*◌, ◌-◌, ◌/◌, ◌%◌, cond, length, leb}
use Rattle.std.specs.Int.Bits.{bit_and}
use Rattle.buffer.specs.Same.{Bytes}
use Rattle.buffer.specs.Field.{read64}
use Rattle.siphash.specs.Sip.{sip_hash13}

-- the number of a key's shard, of that many
abbrev pub home_in : ℕ → Bytes → ℕ
home_in shards k = sip_hash13 k % shards

-- a word of a key goes into a number below 2^32
unfoldable pub mixed : ℕ → ℕ → ℕ
mixed x w = ((x + w % 4294967296) * 668265263 + w / 4294967296 * 1540483477) / 16777216 % 4294967296

-- a key's length, its first eight bytes and its last eight
abbrev pub ends_mixed : Bytes → ℕ
ends_mixed k = mixed (mixed (length k) (read64 k 0)) (read64 k (length k - 8))

-- and the eight behind the first, and those before the last
abbrev pub whole_mixed : Bytes → ℕ
whole_mixed k = mixed (mixed (ends_mixed k) (read64 k 8)) (read64 k (length k - 16))

-- what a key's mark is made of: for 8 to 32 bytes all of them, else its hash
unfoldable pub marked_by : Bytes → ℕ
marked_by k = cond (leb 8 (length k)) (cond (leb (length k) 32) (cond (leb (length k) 16) (ends_mixed k) (whole_mixed k)) (sip_hash13 k)) (sip_hash13 k)

-- the mark of a key, at most `top`: of the bits that the shard's number does not use, those that `top` has
unfoldable pub mark_of : ℕ → Bytes → ℕ
mark_of top k = bit_and (marked_by k / 65536) top
