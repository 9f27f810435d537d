-- One equation for each way through the code that needs more than the tests along it. Assumes nothing.
use Rattle.std.specs.Prelude.{◌≡◌, refl, ◌⊎◌, None, Ok, Err, Bool, ℕ, ◌+◌, ◌-◌, ◌≤◌, ◌<◌, length, get_or}
use Rattle.std.proofs.Math.Bool.{true, false}
use Rattle.std.proofs.lemmas.Bool.{false≢true}
use Rattle.std.proofs.Common.{ap, ◌∙◌, inl, inr, arith}
use Rattle.std.proofs.Math.Dec.{leb}
use borrow.Author.Tests.{le-leb, lt-leb, leb-true, leb-false}
use Rattle.buffer.specs.Same.{Bytes, same}
use Rattle.buffer.specs.Field.{read32}
use Rattle.buffer.specs.Part.{part}
use Rattle.config.specs.Limits.{max_commands}
use Rattle.resp3.specs.Value.{null_bytes}
use Rattle.resp3.specs.Ends.{is_value}
use Rattle.planning.specs.Plan.{plan_head_size, null_start}
use Rattle.planning.specs.declared.NodeKind.{NodeKind}
use Rattle.planning.specs.declared.NodeKind.TheVariants.{HandOn, Served, AllServed, Missing, Several, Waiting, End}
use Rattle.planning.specs.declared.UnknownKind.{UnknownKind}
use Rattle.plan.specs.declared.NodeHead.{NodeHead}
use Rattle.plan.specs.Head.{end_at, head_at, HeadIn}
use Rattle.plan_check.specs.declared.Walk.{Walk}
use Rattle.plan_check.specs.Check.{both, whole_at, empty_fine, value_fine, places_fine, key_fine, kind_fine, head_fine, followed, walked_past, start_fine}

-- ---- a whole node

pub both-no : (t : Bool) → both t false ≡ false
both-no true = refl
both-no false = refl

module _ (s : Bytes) (at : ℕ) where
  -- no head
  pub whole-short : length s < at + 20 → whole_at s at ≡ false
  unfolding whole_at
  whole-short h = rw (lt-leb (at + 20) (length s) h)

  -- the parts pass the end
  pub whole-past : length s < end_at s at → whole_at s at ≡ false
  unfolding whole_at
  whole-past h = rw (lt-leb (end_at s at) (length s) h) (both-no (leb (at + 20) (length s)))

  -- by the second part, where the first is inside
  pub whole_parts : (a b n : ℕ) → at + 20 ≤ length s → a ≡ read32 s (at + 4) → b ≡ read32 s (at + 8) → at + 20 + a + n ≡ length s → leb b n ≡ whole_at s at
  unfolding whole_at
  whole_parts a b n h i j l = rw (le-leb (at + 20) (length s) h) (compared (leb b n) refl)
    where
      compared : (t : Bool) → leb b n ≡ t → t ≡ leb (end_at s at) (length s)
      compared true e = rw (le-leb (end_at s at) (length s) (let g = leb-true b n e in omega arith))
      compared false e = rw (lt-leb (end_at s at) (length s) (let g = leb-false b n e in omega arith))

-- ---- by the kind

module _ (s : Bytes) (h : NodeHead) where
  abbrev a : ℕ
  a = h.second - h.first

  abbrev b : ℕ
  b = h.end - h.second

  pub kind_0 : h.kind ≡ Ok HandOn → head_fine s h ≡ empty_fine a b h.number
  unfolding head_fine kind_fine
  kind_0 e = rw e

  pub kind_1 : h.kind ≡ Ok Served → head_fine s h ≡ value_fine b h.number (is_value (part s h.first a))
  unfolding head_fine kind_fine
  kind_1 e = rw e

  pub kind_2 : h.kind ≡ Ok AllServed → head_fine s h ≡ places_fine a b h.number
  unfolding head_fine kind_fine
  kind_2 e = rw e

  pub kind_3 : h.kind ≡ Ok Missing → head_fine s h ≡ key_fine a b
  unfolding head_fine kind_fine
  kind_3 e = rw e

  pub kind-4 : h.kind ≡ Ok Several → head_fine s h ≡ places_fine a b h.number
  unfolding head_fine kind_fine
  kind-4 e = rw e

  pub kind-5 : h.kind ≡ Ok Waiting → head_fine s h ≡ key_fine a b
  unfolding head_fine kind_fine
  kind-5 e = rw e

  pub kind-6 : h.kind ≡ Ok End → head_fine s h ≡ empty_fine a b h.number
  unfolding head_fine kind_fine
  kind-6 e = rw e

  pub kind-other : (n : UnknownKind) → h.kind ≡ Err n → head_fine s h ≡ false
  unfolding head_fine kind_fine
  kind-other n e = rw e

-- ---- by the kind of a head that has one, as the code's arms put kinds together

module _ (s : Bytes) (h : NodeHead) (k : NodeKind) (e : h.kind ≡ Ok k) where
  pub kind-empty : (k ≡ HandOn) ⊎ (k ≡ End) → head_fine s h ≡ empty_fine (a s h) (b s h) h.number
  kind-empty (inl q) = kind_0 s h (e ∙ ap Ok q)
  kind-empty (inr q) = kind-6 s h (e ∙ ap Ok q)

  pub kind-places : (k ≡ AllServed) ⊎ (k ≡ Several) → head_fine s h ≡ places_fine (a s h) (b s h) h.number
  kind-places (inl q) = kind_2 s h (e ∙ ap Ok q)
  kind-places (inr q) = kind-4 s h (e ∙ ap Ok q)

  pub kind-key : (k ≡ Missing) ⊎ (k ≡ Waiting) → head_fine s h ≡ key_fine (a s h) (b s h)
  kind-key (inl q) = kind_3 s h (e ∙ ap Ok q)
  kind-key (inr q) = kind-5 s h (e ∙ ap Ok q)

-- ---- a step

module _ (s : Bytes) (w : Walk) where
  pub step_cut : whole_at s w.at ≡ false → walked_past s w ≡ None
  unfolding walked_past
  step_cut e = rw e

  pub step-bad : whole_at s w.at ≡ true → head_fine s (head_at s w.at) ≡ false → walked_past s w ≡ None
  unfolding walked_past
  step-bad e f = rw (e, f)

  pub step-on : whole_at s w.at ≡ true → head_fine s (head_at s w.at) ≡ true → walked_past s w ≡ followed w (head_at s w.at)
  unfolding walked_past
  step-on e f = rw (e, f)

-- ---- what a whole node says

pub both_yes : (t u : Bool) → both t u ≡ true → (t ≡ true) × (u ≡ true)
both_yes true u e = (refl, e)
both_yes false u e = absurd (false≢true e)

pub whole_says : (s : Bytes) (at : ℕ) → whole_at s at ≡ true → HeadIn s at
unfolding whole_at
whole_says s at e = let t = both_yes _ _ e in (leb-true _ _ t.0, leb-true _ _ t.1)

-- the parts of its head lie one after the other, inside
pub parts-lie : (s : Bytes) (at : ℕ) (h : NodeHead) → whole_at s at ≡ true → h ≡ head_at s at
    → (h.first ≤ h.second) × (h.second ≤ h.end) × (h.end ≤ length s)
unfolding head_at
parts-lie s at h e i = let q = whole_says s at e in rw i (omega arith, omega arith, q.1)

-- ---- the start

module _ (s : Bytes) where
  pub start-short : length s < plan_head_size → start_fine s ≡ false
  unfolding start_fine
  start-short h = rw (lt-leb plan_head_size (length s) h)

  pub start-flags : 1 < get_or s 0 0 → start_fine s ≡ false
  unfolding start_fine
  start-flags h = rw (lt-leb (get_or s 0 0) 1 h) (both-no (leb plan_head_size (length s)))

  pub start-null : same (part s null_start 3) null_bytes ≡ false → start_fine s ≡ false
  unfolding start_fine
  start-null e = rw (e, both-no (leb (get_or s 0 0) 1)) (both-no (leb plan_head_size (length s)))

  pub start-count : (n : ℕ) → plan_head_size ≤ length s → get_or s 0 0 ≤ 1 → same (part s null_start 3) null_bytes ≡ true → n ≡ read32 s 4
      → leb n max_commands ≡ start_fine s
  unfolding start_fine
  start-count n h i e j = rw (le-leb plan_head_size (length s) h, le-leb (get_or s 0 0) 1 i, e, j)
