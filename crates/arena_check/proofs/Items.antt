-- One pure law for each path of the code that checks an item. Assumes nothing.
use mathlib.Core.Path.{◌≡◌, refl, sym, ◌∙◌}
use Prim.Native.Nat.{ℕ, ◌+◌, ◌-◌, ◌%◌, ◌≤◌, ◌<◌}
use native.Mathlib.Omega.{arith}
use mathlib.Core.Bool.{Bool, true, false, cond}
use Rattle.std.specs.Prelude.{Option}
use lib.ListN.{take, drop}
use lib.Dec.{eqb, leb}
use borrow.Author.Tests.{le-leb, lt-leb, leb-true}
use Rattle.buffer.specs.Cases.{by_test}
use Rattle.buffer.specs.Same.{Bytes}
use Rattle.buffer.specs.Field.{read32}
use Rattle.buffer.specs.Part.{part}
use Rattle.buffer.specs.Zero.{all_zero}
use Rattle.config.specs.Limits.{max_key}
use Rattle.resp3.specs.Ends.{is_value}
use Rattle.siphash.specs.Sip.{sip_hash13}
use Rattle.arena.specs.Decode.{every}
use Rattle.arena.proofs.Tests.{every-yes}
use Rattle.arena_check.specs.Home.{home_in}
use Rattle.arena_check.specs.Check.{key_in, key_at, entries_at, item_next, item_within, ends, entries_end, item_ok}

-- a test alone
pub if-same : (b : Bool) → cond b true false ≡ b
if-same true = refl
if-same false = refl

module _ (s : Bytes) (end at : ℕ) where
  pub within-short : end < at + 32 → item_within s end at ≡ false
  unfolding item_within every
  within-short h = rw (lt-leb (at + 32) end h)

  -- by the lengths that were read
  pub within-read : (k e : ℕ) → at + 32 ≤ end → k ≡ read32 s at → e ≡ read32 s (at + 24) → leb (at + 32 + k + e) end ≡ item_within s end at
  unfolding item_within every
  within-read k e h a b = rw (a, b, le-leb (at + 32) end h) (sym (if-same (leb (item_next s at) end)))

  pub within-says : item_within s end at ≡ true → (at + 32 ≤ end) × (item_next s at ≤ end)
  unfolding item_within
  within-says e = let w = every-yes _ e in (leb-true _ _ w.0, leb-true _ _ w.1.0)

-- the hash of the key, by the length that was read
pub hash-read : (s : Bytes) (h at x k r : ℕ) → x ≡ at + h → k ≡ read32 s at → r ≡ sip_hash13 (take (x + k - x) (drop x s)) → r ≡ sip_hash13 (key_in h s at)
unfolding part
hash-read s h at x k r i a e = let n : x + k - x ≡ k = omega arith in rw (n, i, a) at e

-- the test of its shard, by the hash and the number that were worked out
pub home-read : (shards shard hash home : ℕ) (k : Bytes) (b : Bool) → hash ≡ sip_hash13 k → home ≡ hash % shards → eqb home shard ≡ b
    → eqb (home_in shards k) shard ≡ b
home-read shards shard hash home k b h e t = rw (← h, ← e) t

-- the test of its entries' end, by what was read
pub ends_read : (s : Bytes) (at k n next : ℕ) (r : Option ℕ) → k ≡ read32 s at → n ≡ read32 s (at + 4) → next ≡ item_next s at
    → r ≡ entries_end is_value s next n (at + 32 + k)
    → ends r next ≡ ends (entries_end is_value s (item_next s at) (read32 s (at + 4)) (entries_at s at)) (item_next s at)
ends_read s at k n next r a b c e = rw (e, a, b, c)

module _ (is_value : Bytes → Bool) (home : Bytes → ℕ) (s : Bytes) (shard end at : ℕ) where
  pub item-outside : item_within s end at ≡ false → item_ok is_value home s shard end at ≡ false
  unfolding item_within item_ok every
  item-outside e =
      by_test (leb (at + 32) end)
      (λ q. rw (q, sym (if-same (leb (item_next s at) end)) ∙ rw q at e))
      (λ q. rw q)

  module _ (h : at + 32 ≤ end) (l : item_next s at ≤ end) where
    pub item-filled : all_zero (part s (at + 28) 4) ≡ false → item_ok is_value home s shard end at ≡ false
    unfolding item_ok every
    item-filled z = rw (le-leb (at + 32) end h, le-leb (item_next s at) end l, z)

    module _ (z : all_zero (part s (at + 28) 4) ≡ true) where
      pub item-long : max_key < read32 s at → item_ok is_value home s shard end at ≡ false
      unfolding item_ok every
      item-long k = rw (le-leb (at + 32) end h, le-leb (item_next s at) end l, z, lt-leb (read32 s at) max_key k)

      module _ (k : read32 s at ≤ max_key) where
        pub item-away : eqb (home (key_at s at)) shard ≡ false → item_ok is_value home s shard end at ≡ false
        unfolding item_ok every
        item-away e = rw (le-leb (at + 32) end h, le-leb (item_next s at) end l, z, le-leb (read32 s at) max_key k, e)

        module _ (e : eqb (home (key_at s at)) shard ≡ true) where
          pub item-empty : read32 s (at + 4) < 1 → item_ok is_value home s shard end at ≡ false
          unfolding item_ok every
          item-empty n = rw (le-leb (at + 32) end h, le-leb (item_next s at) end l, z, le-leb (read32 s at) max_key k, e, lt-leb 1 (read32 s (at + 4)) n)

          pub item-rest : 1 ≤ read32 s (at + 4)
              → ends (entries_end is_value s (item_next s at) (read32 s (at + 4)) (entries_at s at)) (item_next s at) ≡ item_ok is_value home s shard end at
          unfolding item_ok every
          item-rest n =
              rw (le-leb (at + 32) end h, le-leb (item_next s at) end l, z, le-leb (read32 s at) max_key k, e, le-leb 1 (read32 s (at + 4)) n)
              (sym (if-same (ends (entries_end is_value s (item_next s at) (read32 s (at + 4)) (entries_at s at)) (item_next s at))))
