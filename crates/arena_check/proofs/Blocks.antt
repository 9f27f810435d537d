-- Blocks of things whose keys are compared with all behind them: what is found of one, and one after the other. Assumes nothing.
use mathlib.Core.Path.{◌≡◌, sym, ap, ap₂, ◌∙◌, subst}
use Prim.Native.Nat.{ℕ, zero, suc, ◌+◌, ◌-◌, ◌≤◌}
use native.Mathlib.Omega.{arith}
use Rattle.std.specs.Prelude.{Option, Some, None, is_some}
use lib.ListN.{length}
use lib.Dec.{ltb}
use borrow.Author.Tests.{ltb-true, ltb-false}
use Rattle.buffer.specs.Cases.{by_test}
use Rattle.buffer.specs.Same.{Bytes, same}
use Rattle.arena_check.specs.Walk.{nth}
use Rattle.arena_check.specs.Check.{key_in, next_in}
use Rattle.arena_check.specs.Chain.{Stand, keys_from, Apart, Twice, Answers, Chained}

-- what is found of all things says whether a key is there twice
pub chained-answers : (h f : ℕ) (s : Bytes) (first n : ℕ) (r : Option ℕ) → Chained h f s first n n r → Answers (keys_from h f s first) (is_some r) n n
chained-answers h f s first n None w = w
chained-answers h f s first n (Some e) w = w.1

-- ---- block after block

-- the t-th thing behind the b-th
nth-add : (next : ℕ → ℕ) (b t a : ℕ) → nth next t (nth next b a) ≡ nth next (b + t) a
unfolding nth
nth-add next b zero a = let e : b ≡ b + 0 = omega arith in ap (λ (i : ℕ). nth next i a) e
nth-add next b (suc t) a = let e : suc (b + t) ≡ b + suc t = omega arith in ap next (nth-add next b t a) ∙ ap (λ (i : ℕ). nth next i a) e

-- where none was walked, the first stands
pub nth-none : (next : ℕ → ℕ) (first k : ℕ) → 0 ≡ k → first ≡ nth next k first
unfolding nth
nth-none next first k e = ap (λ (i : ℕ). nth next i first) e

module _ (h f : ℕ) (s : Bytes) (first n left at m : ℕ) (l : left ≤ n) (p : at ≡ nth (next_in h f s) (n - left) first) where
  -- the t-th thing of what is left
  thing : (t : ℕ) → nth (next_in h f s) t at ≡ nth (next_in h f s) (n - left + t) first
  thing t = ap (nth (next_in h f s) t) p ∙ nth-add (next_in h f s) (n - left) t first

  keyed : (t : ℕ) → keys_from h f s at t ≡ keys_from h f s first (n - left + t)
  keyed t = ap (key_in h s) (thing t)

  -- what is left stands within the bytes
  pub left-stands : Stand h f s n first → Stand h f s left at
  left-stands w =
      ((λ k q. subst (λ (i : ℕ). next_in h f s i ≤ length s) (sym (thing k)) (w.0 (n - left + k) (omega arith))), w.1, w.2, w.3)

  pub left-twice : Twice (keys_from h f s at) left → Twice (keys_from h f s first) n
  left-twice w =
      let a = w.order in
      let b = w.below in
      record {
        one = n - left + w.one;
        other = n - left + w.other;
        order = omega arith;
        below = omega arith;
        equal = sym (ap₂ same (keyed w.one) (keyed w.other)) ∙ w.equal;
      }

  -- m things more are apart from all behind them
  pub left-apart : m ≤ left → Apart (keys_from h f s first) (n - left) n → Apart (keys_from h f s at) m left → Apart (keys_from h f s first) (n - (left - m)) n
  left-apart z w v j k a b c =
      by_test (ltb j (n - left))
      (λ t. w j k (ltb-true j (n - left) t) b c)
      (λ t.
      let x = ltb-false j (n - left) t in
      let ej : n - left + (j - (n - left)) ≡ j = omega arith in
      let ek : n - left + (k - (n - left)) ≡ k = omega arith in
      ap₂ (λ (u v : ℕ). same (keys_from h f s first u) (keys_from h f s first v)) (sym ej) (sym ek)
      ∙ sym (ap₂ same (keyed (j - (n - left))) (keyed (k - (n - left)))) ∙ v (j - (n - left)) (k - (n - left)) (omega arith) (omega arith) (omega arith))

  -- where the next block starts
  pub left-place : (to : ℕ) → m ≤ left → to ≡ nth (next_in h f s) m at → to ≡ nth (next_in h f s) (n - (left - m)) first
  left-place to z e = let q : n - left + m ≡ n - (left - m) = omega arith in e ∙ thing m ∙ ap (λ (i : ℕ). nth (next_in h f s) i first) q
