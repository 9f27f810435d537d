-- `vectors_lines::line_end` meets its contract: the first line feed of what is left, by its place there. Assumes nothing.
use Rattle.std.proofs.Common.{◌≡◌, ◌≢◌, ◌∙◌, ◌+◌, ◌-◌, ◌<◌, ◌≤◌, ℕ, List, length, length-drop, get_or, get_or-drop, drop, take_all, sym, arith, rules, tests}
use Rattle.std.specs.Option.{MatchOption}
use Rattle.std.specs.List.{AllWithin, HoldsAt}
use Rattle.std.proofs.lemmas.Iterator.{YieldsList-from_slice, IsFirst-from_position}
use Rattle.vectors_lines.proofs.line_end.Goals as goal
use Rattle.vectors_lines.proofs.line_end.Goals.{After-position}

-- what was found among the bytes from `at` on
told : (c : After-position) → let xs = drop c.args.at c.args.s.now in
    MatchOption c.position.result (AllWithin (λ x. x ≢ 10) xs 0 (length xs)) (λ i. (i < length xs) × HoldsAt (λ x. x ≡ 10) xs i × AllWithin (λ x. x ≢ 10) xs 0 i)
told c =
    let l : length (drop c.args.at c.args.s.now) ≤ length c.args.s.now - c.args.at = simp length-drop (omega arith) in
    IsFirst-from_position _ _ c.position.result (λ x. x ≡ 10) (λ x. x ≢ 10) c.position.ensures.ran
    (YieldsList-from_slice _ (c.iter.ensures.rest ∙ take_all (length c.args.s.now - c.args.at) (drop c.args.at c.args.s.now) l))
    (λ x q k. search (rules, tests)) (λ x q k. search (rules, tests))

-- no line feed up to a place among them is none up to that place of the whole
plain : (s : List ℕ) (at n : ℕ) → AllWithin (λ x. x ≢ 10) (drop at s) 0 n → (i : ℕ) → at ≤ i → i < at + n → get_or s i 0 ≡ 10 → ⊥
plain s at n a i l h e =
    let j : at + (i - at) ≡ i = omega arith in
    a (i - at) 0 (omega arith) (omega arith) (get_or-drop at s (i - at) 0 ∙ rw j e)

pub returns-in-Some : goal.returns-in-Some
returns-in-Some c =
    let s = c.args.s.now in
    let at = c.args.at in
    let n = c.in-Some.n in
    let t : (n < length (drop at s)) × HoldsAt (λ x. x ≡ 10) (drop at s) n × AllWithin (λ x. x ≢ 10) (drop at s) 0 n = rw c.in-Some.is at (told (goal.at.returns-in-Some c).After-position) in
    let b = t.0 in
    (omega arith, omega (arith, length-drop at s), plain s at n t.2, λ _. sym (get_or-drop at s n 0) ∙ t.1 0)

pub returns-in-None : goal.returns-in-None
returns-in-None c =
    let s = c.args.s.now in
    let at = c.args.at in
    let t : AllWithin (λ x. x ≢ 10) (drop at s) 0 (length (drop at s)) = rw c.in-None.is at (told (goal.at.returns-in-None c).After-position) in
    (omega arith, omega arith, λ i l h e. plain s at (length (drop at s)) t i l (omega (arith, length-drop at s)) e, λ h. absurd (omega arith))
