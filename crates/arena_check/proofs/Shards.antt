-- One pure law for each path of the code that checks a shard, and all shards. Assumes nothing.
use mathlib.Core.Path.{◌≡◌, refl, sym, ap, subst, ◌∙◌}
use Prim.Native.Nat.{ℕ, zero, suc, ◌+◌, ◌*◌, ◌-◌, ◌^◌, ◌≤◌, ◌<◌}
use native.Mathlib.Omega.{arith}
use native.Mathlib.Nat.{mul-le-mul_right}
use mathlib.Core.Bool.{Bool, true, false, cond}
use Rattle.std.specs.Prelude.{Option}
use lib.ListN.{length, take, drop, length-drop}
use lib.Seq.{take-length}
use lib.Dec.{eqb}
use borrow.Author.Tests.{le-leb, lt-leb, eqb-true, eqb-false}
use native.Mathlib.Numerals.{add-one}
use Rattle.buffer.specs.Cases.{by_test}
use Rattle.buffer.specs.Same.{Bytes}
use Rattle.buffer.specs.Field.{Octets, read32}
use Rattle.buffer.specs.Part.{part}
use Rattle.buffer.specs.PartLaws.{length_part}
use Rattle.buffer.specs.Zero.{all_zero}
use Rattle.book.specs.Book.{Setup}
use Rattle.resp3.specs.Ends.{is_value}
use Rattle.siphash.specs.Sip.{sip_hash13}
use Rattle.arena.specs.Decode.{every, is_image}
use Rattle.arena.specs.SetupOf.{setup_of}
use Rattle.arena_check.specs.Home.{home_in}
use Rattle.arena_check.specs.Law.{check-law}
use Rattle.arena_check.specs.Check.{ends, items_end, shard_ok, shards_ok, arena_ok}
use Rattle.arena_check.proofs.Items.{if-same}

-- the bytes from a place on, as they were tested
pub rest_read : (s : Bytes) (e : ℕ) (r : Bool) → r ≡ all_zero (part s e (length s - e)) → all_zero (drop e s) ≡ r
unfolding part
rest_read s e r q = sym (q ∙ ap all_zero (ap (λ (n : ℕ). take n (drop e s)) (sym (length-drop e s)) ∙ take-length (drop e s)))

module _ (is_value : Bytes → Bool) (home : Bytes → ℕ) (keys : ℕ) (s : Bytes) (shard : ℕ) where
  pub shard-many : keys < read32 s 0 → shard_ok is_value home keys s shard ≡ false
  unfolding shard_ok every
  shard-many h = rw (lt-leb (read32 s 0) keys h)

  module _ (h : read32 s 0 ≤ keys) where
    pub shard-long : length s < 16 + read32 s 4 → shard_ok is_value home keys s shard ≡ false
    unfolding shard_ok every
    shard-long l = rw (le-leb (read32 s 0) keys h, lt-leb (16 + read32 s 4) (length s) l)

    module _ (l : 16 + read32 s 4 ≤ length s) where
      pub shard-filled : all_zero (part s 8 8) ≡ false → shard_ok is_value home keys s shard ≡ false
      unfolding shard_ok every
      shard-filled z = rw (le-leb (read32 s 0) keys h, le-leb (16 + read32 s 4) (length s) l, z)

      module _ (z : all_zero (part s 8 8) ≡ true) (e : ℕ) (end : e ≡ 16 + read32 s 4) where
        pub shard-rest : all_zero (drop e s) ≡ false → shard_ok is_value home keys s shard ≡ false
        unfolding shard_ok every
        shard-rest r = rw (le-leb (read32 s 0) keys h, le-leb (16 + read32 s 4) (length s) l, z, rw end at r)

        -- by what was read
        pub shard-items : (n : ℕ) (r : Option ℕ) → all_zero (drop e s) ≡ true → n ≡ read32 s 0 → r ≡ items_end is_value home s shard e n
            → ends r e ≡ shard_ok is_value home keys s shard
        unfolding shard_ok every
        shard-items n r q c i =
            rw (i, c, end)
            (sym (rw (le-leb (read32 s 0) keys h, le-leb (16 + read32 s 4) (length s) l, z, rw end at q) (if-same _)))

-- ---- all shards

module _ (is_value : Bytes → Bool) (home : Bytes → ℕ) (keys bytes : ℕ) (s : Bytes) (i : ℕ) where
  -- one that does not pass, among the first n
  pub shards-bad : shard_ok is_value home keys (part s (i * bytes) bytes) i ≡ false → (n : ℕ) → i < n → shards_ok is_value home keys bytes s n ≡ false
  unfolding shards_ok every
  shards-bad e zero l = absurd (omega arith)
  shards-bad e (suc n) l =
      by_test (eqb i n)
      (λ q. rw (subst (λ (j : ℕ). shard_ok is_value home keys (part s (j * bytes) bytes) j ≡ false) (eqb-true i n q) e))
      (λ q.
      rw (shards-bad e n (omega (arith, eqb-false i n q))) (none-passes (shard_ok is_value home keys (part s (n * bytes) bytes) n)))
    where
      none-passes : (b : Bool) → cond b (cond false true false) false ≡ false
      none-passes true = refl
      none-passes false = refl

  -- one that does, behind the others
  pub shards-more : shard_ok is_value home keys (part s (i * bytes) bytes) i ≡ true → shards_ok is_value home keys bytes s i ≡ true
      → shards_ok is_value home keys bytes s (i + 1) ≡ true
  unfolding shards_ok every
  shards-more e w = ap (shards_ok is_value home keys bytes s) (add-one i) ∙ rw (e, w)

-- the last of the first i
module _ (is_value : Bytes → Bool) (home : Bytes → ℕ) (keys bytes : ℕ) (s : Bytes) (i : ℕ) (h : 0 < i) where
  last : (suc (i - 1) ≡ i)
  last = omega arith

  pub last-bad : shard_ok is_value home keys (part s ((i - 1) * bytes) bytes) (i - 1) ≡ false → shards_ok is_value home keys bytes s i ≡ false
  last-bad e = shards-bad is_value home keys bytes s (i - 1) e i (omega arith)

  pub shards-good : shard_ok is_value home keys (part s ((i - 1) * bytes) bytes) (i - 1) ≡ true
      → shards_ok is_value home keys bytes s i ≡ shards_ok is_value home keys bytes s (i - 1)
  unfolding shards_ok every
  shards-good e = ap (shards_ok is_value home keys bytes s) (sym last) ∙ rw e (if-same (shards_ok is_value home keys bytes s (i - 1)))

-- the shard's bytes, as they were lent
pub shard-read : (is_value : Bytes → Bool) (home : Bytes → ℕ) (keys bytes : ℕ) (s : Bytes) (j : ℕ) (r : Bool)
    → r ≡ shard_ok is_value home keys (take (j * bytes + bytes - j * bytes) (drop (j * bytes) s)) j → shard_ok is_value home keys (part s (j * bytes) bytes) j ≡ r
unfolding part
shard-read is_value home keys bytes s j r e =
    let n : j * bytes + bytes - j * bytes ≡ bytes = omega arith in sym (rw n at e)

-- and how many they are
pub lent_length : (s : Bytes) (from bytes : ℕ) → from + bytes ≤ length s → length (take (from + bytes - from) (drop from s)) ≡ bytes
unfolding part
lent_length s from bytes h = let n : from + bytes - from ≡ bytes = omega arith in rw n (length_part s from bytes h)

-- a shard's bytes are among all
pub within_all : (i shards bytes : ℕ) → i < shards → i * bytes + bytes ≤ shards * bytes
within_all i shards bytes h = let e : suc i * bytes ≤ shards * bytes = mul-le-mul_right bytes h in omega arith

module _ (is_value : Bytes → Bool) (p : Setup) (s : Bytes) where
  pub arena-rest : all_zero (drop (p.shards * p.bytes) s) ≡ false → arena_ok is_value p s ≡ false
  unfolding arena_ok every
  arena-rest e = rw e

  pub arena-shards : all_zero (drop (p.shards * p.bytes) s) ≡ true
      → arena_ok is_value p s ≡ shards_ok is_value p.shard_of p.keys p.bytes s p.shards
  unfolding arena_ok every
  arena-shards e = rw e (if-same (shards_ok is_value p.shard_of p.keys p.bytes s p.shards))

-- ---- the image

module _ (shards keys bytes : ℕ) (s : Bytes) (b : Octets s) (h : 16 ≤ bytes) (l : bytes < 2 ^ 32) (i : shards * bytes ≤ length s) where
  -- the check is the definition
  image-law : arena_ok is_value (setup_of sip_hash13 shards keys bytes) s ≡ is_image is_value (setup_of sip_hash13 shards keys bytes) s
  unfolding setup_of
  image-law = check-law is_value (setup_of sip_hash13 shards keys bytes) s b (record { header = h; small = l; inside = i })

  pub image-rest : all_zero (drop (shards * bytes) s) ≡ false → is_image is_value (setup_of sip_hash13 shards keys bytes) s ≡ false
  unfolding setup_of
  image-rest e = sym image-law ∙ arena-rest is_value (setup_of sip_hash13 shards keys bytes) s e

  pub image-shards : all_zero (drop (shards * bytes) s) ≡ true
      → is_image is_value (setup_of sip_hash13 shards keys bytes) s ≡ shards_ok is_value (home_in shards) keys bytes s shards
  unfolding setup_of
  image-shards e = sym image-law ∙ arena-shards is_value (setup_of sip_hash13 shards keys bytes) s e

pub shards-none : (home : Bytes → ℕ) (keys bytes i : ℕ) (s : Bytes) → i ≡ 0 → shards_ok is_value home keys bytes s i ≡ true
unfolding shards_ok
shards-none home keys bytes i s e = rw e
