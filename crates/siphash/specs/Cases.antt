-- The definition held to the paper's own vector (appendix A) and to two hashes that Rust's `DefaultHasher` gives. Assumes nothing.
use Rattle.std.specs.Prelude.{◌≡◌, [], ◌∷◌, refl}
use Rattle.buffer.specs.Field.{read_le}
use Rattle.siphash.specs.Sip.{rotated, sip_round, rounds, initial, compressed, absorbed, last_word, finished, sip_hash, sip_hash13}

-- SipHash-2-4 of the bytes 0 to 14 under the key of the bytes 0 to 15 is a129ca6149be45e5
pub paper-vector :
    sip_hash 2 4 506097522914230528 1084818905618843912 (0 ∷ 1 ∷ 2 ∷ 3 ∷ 4 ∷ 5 ∷ 6 ∷ 7 ∷ 8 ∷ 9 ∷ 10 ∷ 11 ∷ 12 ∷ 13 ∷ 14 ∷ []) ≡ 11613035633349379557
unfolding rotated sip_round rounds initial compressed absorbed last_word finished sip_hash read_le
paper-vector = refl

-- the empty key's hash is d1fba762150c532c
pub empty-vector : sip_hash13 [] ≡ 15130871412783076140
unfolding rotated sip_round rounds initial compressed absorbed last_word finished sip_hash read_le
empty-vector = refl

-- a key of nine bytes, one more than a word: 8630bb1493b990aa
pub nine-vector : sip_hash13 (7 ∷ 38 ∷ 69 ∷ 100 ∷ 131 ∷ 162 ∷ 193 ∷ 224 ∷ 255 ∷ []) ≡ 9669434097016606890
unfolding rotated sip_round rounds initial compressed absorbed last_word finished sip_hash read_le
nine-vector = refl
