-- One pure law for each path of the code: what its tests come to. Assumes nothing.
use mathlib.Core.Path.{◌≡◌, refl, sym, ap, ◌∙◌}
use Prim.Native.Nat.{ℕ, zero, suc, ◌+◌, ◌*◌, ◌-◌, ◌≤◌, ◌<◌}
use native.Mathlib.Omega.{arith}
use native.Mathlib.Numerals.{add-one}
use mathlib.Core.Bool.{Bool, true, false, cond}
use mathlib.Core.List.{[], ◌∷◌}
use lib.ListN.{length, get_or}
use lib.Dec.{eqb}
use borrow.Author.Tests.{le-leb, lt-leb, leb-true, eqb-true, eqb-false, eq-eqb, ne_eqb}
use Rattle.buffer.specs.Cases.{by_test, eqb_same}
use Rattle.buffer.specs.Same.{Bytes, same}
use Rattle.buffer.specs.Field.{read_le, read32}
use Rattle.buffer.specs.Part.{part}
use Rattle.buffer.specs.Step.{part-cons}
use Rattle.buffer.specs.Zero.{all_zero}
use Rattle.config.specs.Limits.{max_command_key}
use Rattle.resp3.specs.Ends.{is_value}
use Rattle.arena.specs.Decode.{every}
use Rattle.arena.proofs.Tests.{every-yes}
use Rattle.arena_check.specs.Walk.{nth, before}
use Rattle.arena_check.specs.Check.{key_in, next_in, entry_next, value_at, entry_ok}

-- ---- the place after k + 1 things, and keys before

pub nth-more : (next : ℕ → ℕ) (k a : ℕ) → nth next (k + 1) a ≡ next (nth next k a)
unfolding nth
nth-more next k a = rw (add-one k)

module _ (key_at : ℕ → Bytes) (next : ℕ → ℕ) where
  left_is : (n k : ℕ) → k < n → n - k ≡ suc (n - (k + 1))
  left_is n k h = omega arith

  pub before-hit : (n k from at : ℕ) → k < n → same (key_at from) (key_at at) ≡ true → before key_at next (n - k) from at ≡ true
  unfolding before
  before-hit n k from at h e = ap (λ (m : ℕ). before key_at next m from at) (left_is n k h) ∙ rw e

  pub before_more : (n k from at : ℕ) → k < n → same (key_at from) (key_at at) ≡ false
      → before key_at next (n - k) from at ≡ before key_at next (n - (k + 1)) (next from) at
  unfolding before
  before_more n k from at h e = ap (λ (m : ℕ). before key_at next m from at) (left_is n k h) ∙ rw e

  pub before-end : (n k from at : ℕ) → n ≤ k → before key_at next (n - k) from at ≡ false
  unfolding before
  before-end n k from at h = let e : n - k ≡ 0 = omega arith in ap (λ (m : ℕ). before key_at next m from at) e

-- the keys that were compared, by the lengths that were read
pub same_keys : (s : Bytes) (h p at x y m n : ℕ) (r : Bool) → x ≡ p + h → y ≡ at + h → m ≡ read32 s p → n ≡ read32 s at → r ≡ same (part s x m) (part s y n)
    → same (key_in h s p) (key_in h s at) ≡ r
same_keys s h p at x y m n r i j a b e = sym (rw (i, j, a, b) at e)

-- the next place, by the lengths that were read
pub next_place : (s : Bytes) (h f p x q m n : ℕ) → x ≡ p + f → m ≡ read32 s p → n ≡ read32 s x → q ≡ p + h + m + n → q ≡ next_in h f s p
next_place s h f p x q m n i a b e = e ∙ rw (← i, ← a, ← b)

-- ---- zeros, by the number that they spell

sum-zero : (x r : ℕ) → eqb (x + 256 * r) 0 ≡ cond (eqb x 0) (eqb r 0) false
sum-zero x r =
    by_test (eqb x 0)
    (λ e.
    by_test (eqb r 0)
    (λ f. rw (e, f) (eq-eqb (x + 256 * r) 0 (omega (arith, eqb-true x 0 e, eqb-true r 0 f))))
    (λ f. rw (e, f) (ne_eqb (x + 256 * r) 0 (λ z. eqb-false r 0 f (omega arith)))))
    (λ e. rw e (ne_eqb (x + 256 * r) 0 (λ z. eqb-false x 0 e (omega arith))))

zero_field : (w : ℕ) (s : Bytes) (at : ℕ) → at + w ≤ length s → all_zero (part s at w) ≡ eqb (read_le w s at) 0
unfolding all_zero read_le
zero_field zero s at h = let p : part s at 0 ≡ [] = unfold part in refl in ap all_zero p ∙ sym (eqb_same 0)
zero_field (suc w) s at h =
    let n : suc w ≡ 1 + w = omega arith in
    let p : part s at (suc w) ≡ get_or s at 0 ∷ part s (at + 1) w = ap (part s at) n ∙ part-cons s at w 0 (omega arith) in
    let q : cond (eqb (get_or s at 0) 0) (all_zero (part s (at + 1) w)) false ≡ cond (eqb (get_or s at 0) 0) (eqb (read_le w s (at + 1)) 0) false =
    ap (λ (t : Bool). cond (eqb (get_or s at 0) 0) t false) (zero_field w s (at + 1) (omega arith)) in
    ap all_zero p ∙ q ∙ sym (sum-zero (get_or s at 0) (read_le w s (at + 1)))

-- bytes are zero where the number read there is
pub zero-read : (w : ℕ) (s : Bytes) (at r : ℕ) → at + w ≤ length s → r ≡ read_le w s at → all_zero (part s at w) ≡ eqb r 0
zero-read w s at r h e = zero_field w s at h ∙ ap (λ (i : ℕ). eqb i 0) (sym e)

-- ---- an entry

-- its value, by the lengths that were read
pub value_read : (s : Bytes) (at c v : ℕ) (r : Bool) → c ≡ read32 s at → v ≡ read32 s (at + 4)
    → r ≡ is_value (part s (at + 16 + c) (at + 16 + c + v - (at + 16 + c))) → r ≡ is_value (value_at s at)
value_read s at c v r a b e = let n : at + 16 + c + v - (at + 16 + c) ≡ v = omega arith in rw (n, a, b) at e

module _ (is_value : Bytes → Bool) (s : Bytes) (end at : ℕ) where
  pub entry-short : end < at + 16 → entry_ok is_value s end at ≡ false
  unfolding entry_ok every
  entry-short h = rw (lt-leb (at + 16) end h)

  module _ (h : at + 16 ≤ end) where
    pub entry-long : end < entry_next s at → entry_ok is_value s end at ≡ false
    unfolding entry_ok every
    entry-long l = rw (le-leb (at + 16) end h, lt-leb (entry_next s at) end l)

    module _ (l : entry_next s at ≤ end) where
      pub entry-filled : all_zero (part s (at + 8) 8) ≡ false → entry_ok is_value s end at ≡ false
      unfolding entry_ok every
      entry-filled z = rw (le-leb (at + 16) end h, le-leb (entry_next s at) end l, z)

      pub entry-command : all_zero (part s (at + 8) 8) ≡ true → max_command_key < read32 s at → entry_ok is_value s end at ≡ false
      unfolding entry_ok every
      entry-command z c = rw (le-leb (at + 16) end h, le-leb (entry_next s at) end l, z, lt-leb (read32 s at) max_command_key c)

      pub entry_value : all_zero (part s (at + 8) 8) ≡ true → read32 s at ≤ max_command_key → entry_ok is_value s end at ≡ is_value (value_at s at)
      unfolding entry_ok every
      entry_value z c = rw (le-leb (at + 16) end h, le-leb (entry_next s at) end l, z, le-leb (read32 s at) max_command_key c) (if-same (is_value (value_at s at)))
        where
          if-same : (b : Bool) → cond b true false ≡ b
          if-same true = refl
          if-same false = refl

  -- what passes is within the bound
  pub entry-within : entry_ok is_value s end at ≡ true → entry_next s at ≤ end
  unfolding entry_ok
  entry-within e = leb-true _ _ (every-yes _ e).1.0
