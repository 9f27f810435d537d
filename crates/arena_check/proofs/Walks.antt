-- A loop that walks a run of things: what it has reached, one law for each way on, and what the walk comes to where keys are known to be distinct or
-- not. Assumes nothing.
use mathlib.Core.Path.{◌≡◌, refl, sym, ap, ◌∙◌, subst}
use Prim.Native.Nat.{ℕ, zero, suc, ◌+◌, ◌-◌, ◌≤◌, ◌<◌}
use native.Mathlib.Omega.{arith}
use native.Mathlib.Nat.{sub-zero}
use mathlib.Core.Bool.{Bool, true, false, cond, true≢false}
use Rattle.std.specs.Prelude.{Option, Some, None}
use lib.Dec.{eqb, ltb}
use borrow.Author.Tests.{eqb-true, eqb-false, ltb-true, ltb-false}
use Rattle.buffer.specs.Cases.{by_test}
use Rattle.buffer.specs.Same.{Bytes, same}
use Rattle.arena_check.specs.Walk.{nth, passes, before, walk}
use Rattle.arena_check.specs.Chain.{Apart, Twice, Answers}
use Rattle.arena_check.proofs.Laws.{nth-more}
use Rattle.arena_check.proofs.Chains.{key_of}

module _ (next : ℕ → ℕ) (ok : ℕ → Bool) (bound first n : ℕ) where
  -- i of n things were walked, up to `at`; all of them are within the bound, and the walk of the rest is the whole walk
  pub record Walked (at i : ℕ) : Type 0 where
    pub count : i ≤ n
    pub place : at ≡ nth next i first
    pub inside : at ≤ bound
    pub passed : (k : ℕ) → k < i → next (nth next k first) ≤ bound
    pub left : passes next ok n first ≡ passes next ok (n - i) at

  pub walk_start : first ≤ bound → Walked first 0
  walk_start h =
      record {
        count = omega arith;
        place = unfold nth in refl;
        inside = h;
        passed = λ k l. absurd (omega arith);
        left = ap (λ (m : ℕ). passes next ok m first) (sym (sub-zero n));
      }

  module _ (at i : ℕ) (w : Walked at i) where
    pub walk-done : n ≤ i → passes next ok n first ≡ Some at
    unfolding passes
    walk-done h = let e : n - i ≡ 0 = omega arith in w.left ∙ ap (λ (m : ℕ). passes next ok m at) e

    -- all n are within the bound
    pub walk_inside : n ≤ i → (k : ℕ) → k < n → next (nth next k first) ≤ bound
    walk_inside h k l = w.passed k (omega arith)

    module _ (h : i < n) where
      -- one thing more
      one_more : passes next ok n first ≡ passes next ok (suc (n - (i + 1))) at
      one_more = let e : n - i ≡ suc (n - (i + 1)) = omega arith in w.left ∙ ap (λ (m : ℕ). passes next ok m at) e

      pub walk-bad : ok at ≡ false → passes next ok n first ≡ None
      unfolding passes
      walk-bad q = one_more ∙ rw q

      pub walk-next : ok at ≡ true → next at ≤ bound → (to : ℕ) → to ≡ next at → Walked to (i + 1)
      walk-next q l to e =
          record {
            count = omega arith;
            place = e ∙ ap next w.place ∙ sym (nth-more next i first);
            inside = subst (λ (m : ℕ). m ≤ bound) (sym e) l;
            passed = λ k j.
                by_test (ltb k i) (λ t. w.passed k (ltb-true k i t))
                (λ t.
                let same : at ≡ nth next k first = w.place ∙ ap (λ (m : ℕ). nth next m first) (omega (arith, ltb-false k i t)) in
                subst (λ (m : ℕ). next m ≤ bound) same l);
            left = one_more ∙ unfold passes in rw q (ap (passes next ok (n - (i + 1))) (sym e));
          }

-- ---- the walk that looks for keys, by what is known of them

module _ (key_at : ℕ → Bytes) (next : ℕ → ℕ) (ok : ℕ → Bool) (first : ℕ) where
  abbrev key : ℕ → Bytes
  key t = key_of key_at next first t

  none_before : (k m at : ℕ) → ((t : ℕ) → t < k + m → same (key t) (key_at at) ≡ false) → before key_at next m (nth next k first) at ≡ false
  unfolding before nth
  none_before k zero at w = refl
  none_before k (suc m) at w = rw (w k (omega arith)) (none_before (suc k) m at (λ t h. w t (omega arith)))

  some-before : (k m at t : ℕ) → k ≤ t → t < k + m → same (key t) (key_at at) ≡ true → before key_at next m (nth next k first) at ≡ true
  unfolding before nth
  some-before k zero at t p q e = absurd (omega arith)
  some-before k (suc m) at t p q e =
      by_test (same (key k) (key_at at))
      (λ y. rw y)
      (λ y. rw y (some-before (suc k) m at t (above y) (omega arith) e))
    where
      above : same (key k) (key_at at) ≡ false → suc k ≤ t
      above y =
          by_test (eqb k t)
          (λ z. absurd (true≢false (sym e ∙ ap (λ (i : ℕ). same (key i) (key_at at)) (sym (eqb-true k t z)) ∙ y)))
          (λ z. omega (arith, eqb-false k t z))

  apart-on : (i n at : ℕ) → at ≡ nth next i first → Apart key (i + n) (i + n) → walk key_at next ok first i n at ≡ passes next ok n at
  unfolding walk passes nth
  apart-on i zero at p a = refl
  apart-on i (suc n) at p a =
      let b : before key_at next i first at ≡ false =
      none_before 0 i at (λ t h. ap (λ (j : ℕ). same (key t) (key_at j)) p ∙ a t i (omega arith) (omega arith) (omega arith)) in
      rw b (ap (λ (z : Option ℕ). cond (ok at) z None) (apart-on (suc i) n (next at) (ap next p) (λ j k x y z. a j k (omega arith) y (omega arith))))

  -- nothing comes of it, whatever the tests are
  nothing : (a b : Bool) → ◌≡◌ {A = Option ℕ} (cond a (cond b None None) None) None
  nothing true true = refl
  nothing true false = refl
  nothing false b = refl

  -- nothing comes of it where one of the things is not ok
  failed-on : (i n at : ℕ) → passes next ok n at ≡ None → walk key_at next ok first i n at ≡ None
  unfolding walk passes
  failed-on i zero at p = p
  failed-on i (suc n) at p =
      by_test (ok at)
      (λ q. rw (failed-on (suc i) n (next at) (rw q at p)) (nothing (ok at) (before key_at next i first at)))
      (λ q. rw q)

  pub walk-failed : (n : ℕ) → passes next ok n first ≡ None → walk key_at next ok first 0 n first ≡ None
  walk-failed n p = failed-on 0 n first p

  twice-on : (i n at : ℕ) → at ≡ nth next i first → (w : Twice key (i + n)) → i ≤ w.other → walk key_at next ok first i n at ≡ None
  unfolding walk nth
  twice-on i zero at p w l = absurd (let b = w.below in omega arith)
  twice-on i (suc n) at p w l =
      by_test (ltb i w.other)
      (λ t.
      let m : suc i + n ≡ i + suc n = omega arith in
      let r : walk key_at next ok first (suc i) n (next at) ≡ None = twice-on (suc i) n (next at) (ap next p) (subst (λ (j : ℕ). Twice key j) (sym m) w)
      (omega (arith, ltb-true i w.other t)) in
      rw r (nothing (ok at) (before key_at next i first at)))
      (λ t.
      let o = w.order in
      let e : w.other ≡ i = omega (arith, ltb-false i w.other t) in
      let b : before key_at next i first at ≡ true =
      some-before 0 i at w.one (omega arith) (omega arith) (ap (λ (j : ℕ). same (key w.one) (key_at j))
      (p ∙ ap (λ (j : ℕ). nth next j first) (sym e)) ∙ w.equal) in
      rw b (nothing (ok at) true))

  answered : (r : Bool) (n : ℕ) → Answers key r n n → walk key_at next ok first 0 n first ≡ cond r (passes next ok n first) None
  answered true n a = unfold nth in apart-on 0 n first refl (λ j k x y z. a j k (omega arith) y (omega arith))
  answered false n a =
      unfold nth in twice-on 0 n first refl
      (record { one = a.one; other = a.other; order = a.order; below = let b = a.below in omega arith; equal = a.equal }) (omega arith)

  -- what an answer on the keys makes of it
  pub walk-answer : (r b : Bool) (n : ℕ) → r ≡ b → Answers key r n n → walk key_at next ok first 0 n first ≡ cond b (passes next ok n first) None
  walk-answer r b n e a = answered b n (subst (λ (t : Bool). Answers key t n n) e a)
