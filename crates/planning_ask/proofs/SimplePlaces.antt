-- The simple arguments by how many arguments are left and where the next one stands. Assumes nothing.
use Rattle.std.specs.Prelude.{◌≡◌, cond, ℕ, ◌+◌, ◌-◌, ◌≤◌, ◌<◌, eqb, length, get_or}
use Rattle.std.proofs.Math.Path.{sym, ap}
use Rattle.std.proofs.Common.{ap₂, ◌∙◌, true≢false}
use mathlib.Core.List.{List, [], ◌∷◌}
use native.Mathlib.Omega.{arith}
use borrow.Author.Tests.{eq-eqb, ne_eqb, eqb-true}
use Rattle.buffer.specs.Cases.{by_test}
use Rattle.buffer.specs.Same.{Bytes}
use Rattle.buffer.specs.Part.{part}
use Rattle.cursor.specs.At.{RangeIn, size_at, next_at, args_at, ArgIn, ArgsIn}
use Rattle.cursor.specs.Steps.{one_more, in-more, args_none, args_more}
use Rattle.cursor.specs.declared.Args.{Args}
use Rattle.planning.specs.Ask as plan
use Rattle.planning_ask.specs.Asked.{KeyStep}
use Rattle.planning_ask.specs.Simple.{last_behind, last-all, last-next}
use Rattle.planning_ask.specs.Steps.{last_in, Extracted}
use Rattle.planning_ask.specs.declared.SimpleArgs.{SimpleArgs}

-- the simple ones of the m arguments from `at` on
abbrev pub simples_at : Bytes → ℕ → ℕ → List Bytes
simples_at s m at = plan.simples (args_at s m at)

-- no argument is left
pub simples-none : (s : Bytes) (m at : ℕ) → m ≡ 0 → simples_at s m at ≡ []
unfolding plan.simples
simples-none s m at q = rw (args_none s m at q)

-- where one is simple there is an argument
pub some_left : (s : Bytes) (m at : ℕ) → 0 < length (simples_at s m at) → m ≡ m - 1 + 1
some_left s m at h = one_more m (λ q. let z = ap length (simples-none s m at q) in omega arith)

module _ (s : Bytes) (m n at : ℕ) (q : m ≡ n + 1) (w : ArgsIn s m at) where
  -- a cursor is passed over; it has no bytes of its own
  pub simples-cursor : (get_or s at 0 ≡ 0 → ⊥) → simples_at s m at ≡ simples_at s n (next_at s at)
  unfolding plan.simples
  simples-cursor h = rw (args_more s m n at q, ne_eqb (get_or s at 0) 0 h)

  pub cursor-ends : (get_or s at 0 ≡ 0 → ⊥) → next_at s at ≡ at + 5
  cursor-ends h = let z = (in-more s m n at q w).0.empty (ne_eqb (get_or s at 0) 0 h) in omega arith

  -- a simple one is the first
  pub simples-first : get_or s at 0 ≡ 0 → simples_at s m at ≡ part s (at + 5) (size_at s at) ∷ simples_at s n (next_at s at)
  unfolding plan.simples
  simples-first h = rw (args_more s m n at q, eq-eqb (get_or s at 0) 0 h)

-- ---- the next one

-- a simple argument is among those from `at` on, and the first of them is the first from at₀ on
pub record Ahead (s : Bytes) (m₀ at₀ m at : ℕ) : Type 0 where
  pub here : ArgsIn s m at
  pub some : 0 < length (simples_at s m at)
  pub is : simples_at s m₀ at₀ ≡ simples_at s m at

module _ (s : Bytes) (m₀ at₀ m at : ℕ) (w : Ahead s m₀ at₀ m at) where
  pub ahead_more : m ≡ m - 1 + 1
  ahead_more = some_left s m at w.some

  pub ahead_in : ArgIn s at
  ahead_in = (in-more s m (m - 1) at ahead_more w.here).0

  -- a cursor is passed over
  pub ahead-next : (get_or s at 0 ≡ 0 → ⊥) → Ahead s m₀ at₀ (m - 1) (at + 5)
  ahead-next h =
      let e = cursor-ends s m (m - 1) at ahead_more w.here h in
      let u : simples_at s m at ≡ simples_at s (m - 1) (at + 5) =
      simples-cursor s m (m - 1) at ahead_more w.here h ∙ ap (simples_at s (m - 1)) e in
      record {
        here = rw e at (in-more s m (m - 1) at ahead_more w.here).1;
        some = rw u at w.some;
        is = w.is ∙ u;
      }

  -- a simple one is the next
  pub ahead-found : (end : ℕ) → get_or s at 0 ≡ 0 → end ≡ next_at s at
      → KeyStep s (record { at = at₀; left = m₀ }) (record { key = record { start = at + 5; end = end }; rest = record { at = end; left = m - 1 } })
  ahead-found end h e =
      let i = in-more s m (m - 1) at ahead_more w.here in
      let r = i.0.inside in
      let z : end - (at + 5) ≡ size_at s at = omega arith in
      record {
        is = w.is ∙ simples-first s m (m - 1) at ahead_more w.here h ∙ sym (ap₂ (λ (x : ℕ) (y : ℕ). part s (at + 5) x ∷ simples_at s (m - 1) y) z e);
        inside = (omega arith, omega arith);
        here = rw e i.1;
      }

-- one argument more
abbrev pub with_argument : SimpleArgs → ℕ → ℕ → ℕ → SimpleArgs
with_argument f kind start end = cond (eqb kind 0) (record { count = f.count + 1; last = record { start = start; end = end } }) f

-- what was found of the arguments from at₀ on, when those from `at` on are left
pub record Found (s : Bytes) (m₀ at₀ m at : ℕ) (f : SimpleArgs) : Type 0 where
  pub here : ArgsIn s m at
  pub count : f.count + length (simples_at s m at) ≡ length (simples_at s m₀ at₀)
  pub last : plan.last_only (simples_at s m₀ at₀) ≡ last_behind (last_in s f) (simples_at s m at)
  pub inside : RangeIn s f.last
  pub before : f.count ≤ at

-- at the start
pub found-start : (s : Bytes) (m at : ℕ) → ArgsIn s m at → at ≤ length s → Found s m at m at (record { count = 0; last = record { start = at; end = at } })
found-start s m at w h =
    record { here = w; count = omega arith; last = last-all (simples_at s m at); inside = (omega arith, h); before = omega arith }

-- one further
pub found-next : (s : Bytes) (m₀ at₀ m n at end : ℕ) (f : SimpleArgs) → m ≡ n + 1 → end ≡ next_at s at → Found s m₀ at₀ m at f
    → Found s m₀ at₀ n end (with_argument f (get_or s at 0) (at + 5) end)
found-next s m₀ at₀ m n at end f q e w =
    let i = in-more s m n at q w.here in
    let r = i.0.inside in
    let c = w.count in
    let b = w.before in
    let l = w.last in
    let h : ArgsIn s n end = rw e i.1 in
    by_test (eqb (get_or s at 0) 0)
    (λ t.
    let u = simples-first s m n at q w.here (eqb-true _ _ t) in
    let x = ap length u in
    let z : end - (at + 5) ≡ size_at s at = omega arith in
    let y : last_behind (cond (eqb (f.count + 1) 0) [] (part s (at + 5) (end - (at + 5)) ∷ [])) (simples_at s n end)
    ≡ last_behind (part s (at + 5) (size_at s at) ∷ []) (simples_at s n (next_at s at)) = rw (ne_eqb (f.count + 1) 0 (λ y. omega arith), z, e) in
    rw t
    (record {
      here = h;
      count = rw e (omega arith);
      last = l ∙ ap (last_behind (last_in s f)) u ∙ last-next (last_in s f) (part s (at + 5) (size_at s at)) (simples_at s n (next_at s at)) ∙ sym y;
      inside = (omega arith, omega arith);
      before = omega arith;
    }))
    (λ t.
    let u = simples-cursor s m n at q w.here (λ y. true≢false (sym (eq-eqb _ _ y) ∙ t)) in
    let x = ap length u in
    rw t
    (record {
      here = h;
      count = rw e (omega arith);
      last = l ∙ ap (last_behind (last_in s f)) u ∙ ap (λ (z : ℕ). last_behind (last_in s f) (simples_at s n z)) (sym e);
      inside = w.inside;
      before = omega arith;
    }))

-- at the end
pub found-end : (s : Bytes) (k : Args) (m at : ℕ) (f : SimpleArgs) → m ≡ 0 → Found s k.left k.at m at f → Extracted s k f
unfolding last_behind
found-end s k m at f q w =
    let z = simples-none s m at q in
    record {
      count = let c = w.count in let l = ap length z in omega arith;
      last = w.last ∙ ap (last_behind (last_in s f)) z;
      inside = w.inside;
    }
