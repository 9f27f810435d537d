-- SipHash-c-d, after section 2 of "SipHash: a fast short-input PRF" by Aumasson and Bernstein, and the hash of a key: SipHash-1-3 with
-- both key words zero. Assumes nothing: these are definitions.
use Rattle.std.specs.Prelude.{ℕ, zero, suc, ◌+◌, ◌-◌, ◌*◌, ◌/◌, ◌%◌, ◌^◌, length, bit_or, bit_xor}
use Rattle.config.specs.Wrap.{wrap}
use Rattle.buffer.specs.Same.{Bytes}
use Rattle.buffer.specs.Field.{read_le, read64}
use Rattle.siphash.specs.declared.Sip.{Sip}

-- the sum of two words, modulo 2^64
abbrev pub plus : ℕ → ℕ → ℕ
plus x y = wrap (x + y)

-- a word rotated to the left by k bits
unfoldable pub rotated : ℕ → ℕ → ℕ
rotated x k = bit_or (wrap (x * 2 ^ k)) (x / 2 ^ (64 - k))

-- SipRound: the assignments of the paper's figure, line by line,
--     v0 += v1;      v2 += v3;
--     v1 <<<= 13;    v3 <<<= 16;
--     v1 ^= v0;      v3 ^= v2;
--     v0 <<<= 32;
--     v2 += v1;      v0 += v3;
--     v1 <<<= 17;    v3 <<<= 21;
--     v1 ^= v2;      v3 ^= v0;
--     v2 <<<= 32;
-- where a0 to a3 are the words in the upper half and b0 to b3 in the lower, before the rotations by 32
unfoldable pub sip_round : Sip → Sip
sip_round s =
    let a0 : ℕ = plus s.v0 s.v1 in
    let a2 : ℕ = plus s.v2 s.v3 in
    let a1 : ℕ = bit_xor (rotated s.v1 13) a0 in
    let a3 : ℕ = bit_xor (rotated s.v3 16) a2 in
    let b2 : ℕ = plus a2 a1 in
    let b0 : ℕ = plus (rotated a0 32) a3 in
    let b1 : ℕ = bit_xor (rotated a1 17) b2 in
    let b3 : ℕ = bit_xor (rotated a3 21) b0 in
    record { v0 = b0; v1 = b1; v2 = rotated b2 32; v3 = b3 }

-- that many rounds
unfoldable pub rounds : ℕ → Sip → Sip
rounds zero s = s
rounds (suc n) s = sip_round (rounds n s)

-- the state before the first word, from the two words of the key. The paper's constants are 736f6d6570736575, 646f72616e646f6d,
-- 6c7967656e657261 and 7465646279746573 in hexadecimal
unfoldable pub initial : ℕ → ℕ → Sip
initial k0 k1 =
    record {
      v0 = bit_xor k0 8317987319222330741;
      v1 = bit_xor k1 7237128888997146477;
      v2 = bit_xor k0 7816392313619706465;
      v3 = bit_xor k1 8387220255154660723;
    }

-- a word goes into the state: xored into v3, c rounds, xored into v0
unfoldable pub compressed : ℕ → Sip → ℕ → Sip
compressed c s m =
    let t : Sip = rounds c (record { v0 = s.v0; v1 = s.v1; v2 = s.v2; v3 = bit_xor s.v3 m }) in
    record { v0 = bit_xor t.v0 m; v1 = t.v1; v2 = t.v2; v3 = t.v3 }

-- the state after the first n words of the message, 8 bytes each, little-endian
unfoldable pub absorbed : ℕ → ℕ → ℕ → Bytes → ℕ → Sip
absorbed c k0 k1 s zero = initial k0 k1
absorbed c k0 k1 s (suc n) = compressed c (absorbed c k0 k1 s n) (read64 s (8 * n))

-- the last word: the bytes that are left, none to seven, then null bytes (a place past the end is read as 0), and the length modulo 256
-- as its highest byte
unfoldable pub last_word : Bytes → ℕ
last_word s = read_le 7 s (8 * (length s / 8)) + length s % 256 * 2 ^ 56

-- what the state ends in: 255 xored into v2, d rounds, and the four words xored
unfoldable pub finished : ℕ → Sip → ℕ
finished d s =
    let t : Sip = rounds d (record { v0 = s.v0; v1 = s.v1; v2 = bit_xor s.v2 255; v3 = s.v3 }) in
    bit_xor (bit_xor (bit_xor t.v0 t.v1) t.v2) t.v3

-- SipHash-c-d of a message under the key words k0 and k1
unfoldable pub sip_hash : ℕ → ℕ → ℕ → ℕ → Bytes → ℕ
sip_hash c d k0 k1 s = finished d (compressed c (absorbed c k0 k1 s (length s / 8)) (last_word s))

-- SipHash-1-3 with both key words zero
abbrev pub sip_hash13 : Bytes → ℕ
sip_hash13 s = sip_hash 1 3 0 0 s
