-- What a key's mark is made of, by the words that were read: one law for each path of the code. Assumes nothing.
use mathlib.Core.Path.{◌≡◌, ap, ap₂, ◌∙◌}
use Prim.Native.Nat.{ℕ, ◌+◌, ◌-◌, ◌/◌, ◌≤◌, ◌<◌}
use native.Mathlib.Omega.{arith}
use lib.Bits.{bit_and, and_le_r}
use lib.ListN.{length, take, drop}
use borrow.Author.Tests.{le-leb, lt-leb}
use Rattle.buffer.specs.Same.{Bytes}
use Rattle.buffer.specs.Field.{read32, read64}
use Rattle.buffer.specs.Part.{part}
use Rattle.siphash.specs.Sip.{sip_hash13}
use Rattle.arena_check.specs.Home.{mixed, ends_mixed, whole_mixed, marked_by, mark_of}
use Rattle.arena_check.specs.Check.{key_in}

module _ (k : Bytes) where
  pub marked-short : length k < 8 → marked_by k ≡ sip_hash13 k
  unfolding marked_by
  marked-short h = rw (lt-leb 8 (length k) h)

  module _ (h : 8 ≤ length k) where
    pub marked-long : 32 < length k → marked_by k ≡ sip_hash13 k
    unfolding marked_by
    marked-long l = rw (le-leb 8 (length k) h, lt-leb (length k) 32 l)

    module _ (l : length k ≤ 32) where
      pub marked-ends : length k ≤ 16 → marked_by k ≡ ends_mixed k
      unfolding marked_by
      marked-ends m = rw (le-leb 8 (length k) h, le-leb (length k) 32 l, le-leb (length k) 16 m)

      pub marked-whole : 16 < length k → marked_by k ≡ whole_mixed k
      unfolding marked_by
      marked-whole m = rw (le-leb 8 (length k) h, le-leb (length k) 32 l, lt-leb (length k) 16 m)

  -- two words of a key, as they went in
  pub ends_read : (a b x y : ℕ) → a ≡ read64 k 0 → x ≡ mixed (length k) a → b ≡ read64 k (length k - 8) → y ≡ mixed x b → y ≡ ends_mixed k
  ends_read a b x y p q r e = e ∙ ap₂ mixed (q ∙ ap (mixed (length k)) p) r

  -- and two more
  pub whole-read : (a b w x y : ℕ) → w ≡ ends_mixed k → a ≡ read64 k 8 → x ≡ mixed w a → b ≡ read64 k (length k - 16) → y ≡ mixed x b → y ≡ whole_mixed k
  whole-read a b w x y o p q r e = e ∙ ap₂ mixed (q ∙ ap₂ mixed o p) r

-- the mark of a key, by the length that was read
pub mark-read : (s : Bytes) (h top at x k r : ℕ) → x ≡ at + h → k ≡ read32 s at → r ≡ marked_by (take (x + k - x) (drop x s))
    → (bit_and (r / 65536) top ≡ mark_of top (key_in h s at)) × (bit_and (r / 65536) top ≤ top)
unfolding part mark_of
mark-read s h top at x k r i a e =
    let n : x + k - x ≡ k = omega arith in
    let w : r ≡ marked_by (key_in h s at) = rw (n, i, a) at e in
    (ap (λ (i : ℕ). bit_and (i / 65536) top) w, and_le_r (r / 65536) top)
