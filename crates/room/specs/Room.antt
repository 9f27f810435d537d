-- Room in a buffer, counted down: nothing is summed up, so nothing can wrap. Assumes nothing.
use Rattle.std.specs.Prelude.{◌≡◌, refl, Bool, true, false, cond, not, Option, None, Some, is_some, is_none, ℕ, ◌+◌, ◌-◌, ◌≤◌, ◌<◌, ltb, leb}
use Rattle.std.proofs.Common.{sym, ap, ◌∙◌, true≢false, arith, leb-true, leb-false, le-leb, lt-ltb, le-ltb}
use Rattle.std.proofs.lemmas.Bool.{lt-leb}
use Rattle.buffer.specs.Cases.{by_test}

-- the room that is left once n bytes more are taken; nothing, if there were fewer, or if it was short before
unfoldable pub spent : Option ℕ → ℕ → Option ℕ
spent None n = None
spent (Some left) n = cond (leb n left) (Some (left - n)) None

-- a whole buffer
abbrev pub whole : ℕ → Option ℕ
whole n = Some n

-- whether n bytes more have room
abbrev pub has_room : Option ℕ → ℕ → Bool
has_room None n = false
has_room (Some left) n = leb n left

-- by the test
pub spent_fits : (left n : ℕ) → n ≤ left → spent (Some left) n ≡ Some (left - n)
unfolding spent
spent_fits left n h = rw (le-leb n left h)

pub spent-short : (left n : ℕ) → left < n → spent (Some left) n ≡ None
unfolding spent
spent-short left n h = rw (lt-leb n left h)

-- what was short stays short
pub spent-never : (n : ℕ) → spent None n ≡ None
unfolding spent
spent-never n = refl

-- nothing is taken
pub spent-none : (r : Option ℕ) (n : ℕ) → n ≡ 0 → spent r n ≡ r
spent-none None n q = spent-never n
spent-none (Some left) n q = spent_fits left n (omega arith) ∙ ap Some (omega arith)

-- one after the other
pub spent-more : (r : Option ℕ) (m n : ℕ) → spent (spent r m) n ≡ spent r (m + n)
spent-more None m n = ap (λ (x : Option ℕ). spent x n) (spent-never m) ∙ spent-never n ∙ sym (spent-never (m + n))
spent-more (Some left) m n =
    by_test (leb m left)
    (λ t.
    let h = leb-true m left t in
    ap (λ (x : Option ℕ). spent x n) (spent_fits left m h)
    ∙ by_test (leb n (left - m))
    (λ u.
    let k = leb-true n (left - m) u in
    spent_fits (left - m) n k ∙ ap Some (omega arith) ∙ sym (spent_fits left (m + n) (omega arith)))
    (λ u.
    let k = leb-false n (left - m) u in
    spent-short (left - m) n k ∙ sym (spent-short left (m + n) (omega arith))))
    (λ t.
    let h = leb-false m left t in
    ap (λ (x : Option ℕ). spent x n) (spent-short left m h) ∙ spent-never n ∙ sym (spent-short left (m + n) (omega arith)))

-- a whole buffer turns out short exactly where it is smaller than what is taken
pub whole-short : (room n : ℕ) → is_none (spent (whole room) n) ≡ ltb room n
whole-short room n =
    by_test (leb n room)
    (λ t. let h = leb-true n room t in ap (λ (r : Option ℕ). is_none r) (spent_fits room n h) ∙ sym (le-ltb room n h))
    (λ t. let h = leb-false n room t in ap (λ (r : Option ℕ). is_none r) (spent-short room n h) ∙ sym (lt-ltb room n h))

-- what `is_none` answers
pub none-says : (r : Option ℕ) (b : Bool) → is_some r ≡ not b → b ≡ is_none r
none-says None true e = refl
none-says None false e = absurd (true≢false (sym e))
none-says (Some left) true e = absurd (true≢false e)
none-says (Some left) false e = refl

-- there is room for what is asked after n bytes more exactly if there was room for both
pub room-spent : (r : Option ℕ) (n x : ℕ) → has_room (spent r n) x ≡ has_room r (n + x)
room-spent None n x = ap (λ (r : Option ℕ). has_room r x) (spent-never n)
room-spent (Some left) n x =
    by_test (leb n left)
    (λ t.
    let h = leb-true n left t in
    ap (λ (r : Option ℕ). has_room r x) (spent_fits left n h)
    ∙ by_test (leb x (left - n))
    (λ u. u ∙ sym (le-leb (n + x) left (let k = leb-true x (left - n) u in omega arith)))
    (λ u. u ∙ sym (lt-leb (n + x) left (let k = leb-false x (left - n) u in omega arith))))
    (λ t.
    let h = leb-false n left t in
    ap (λ (r : Option ℕ). has_room r x) (spent-short left n h) ∙ sym (lt-leb (n + x) left (omega arith)))

-- nothing has room unless it was short
pub room-nothing : (r : Option ℕ) → has_room r 0 ≡ is_some r
room-nothing None = refl
room-nothing (Some left) = le-leb 0 left (omega arith)
