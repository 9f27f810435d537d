-- What is read as a number is its digits and CR LF. Assumes nothing.
use Rattle.std.specs.Prelude.{◌≡◌, refl, true, List, [], ◌∷◌, ◌++◌, ℕ, ◌+◌, ◌*◌, ◌-◌, ◌/◌, ◌%◌, ◌<◌, ◌≤◌, eqb, get_or, take, drop, Some}
use Rattle.std.proofs.Common.{sym, ◌∙◌, append_assoc, append-nil, arith, take-append-drop, drop-drop, eqb-true}
use Rattle.buffer.specs.Cases.{by_test}
use Rattle.decimal.specs.Digits.{digits}
use Rattle.decimal.specs.DigitLaws.{digits-one, digits_more}
use Rattle.buffer.specs.Places.{inside, get_or-drop0, step}
use Rattle.decimal.specs.Read.{digit_b, crlf_b, lead, val_acc, num_def}
use Rattle.decimal.specs.ReadLaws.{both_true, digit-range, crlf-in, num-says}

-- CR LF that is found stands there
pub crlf-sound : (s : List ℕ) (e : ℕ) → crlf_b s e ≡ true → drop e s ≡ 13 ∷ 10 ∷ drop (e + 2) s
unfolding crlf_b
crlf-sound s e h =
    let i = crlf-in s e h in
    let p = both_true (eqb (get_or s e 0) 13) _ h in
    let cr = eqb-true (get_or s e 0) 13 p.0 in
    let lf = eqb-true (get_or s (e + 1) 0) 10 p.1 in
    let two : e + 1 + 1 ≡ e + 2 = omega arith in
    step s e (omega arith) ∙ rw (cr, step s (e + 1) i, lf, two)

-- a digit behind a number's digits makes the digits of ten times the number and that digit
digit-more : (m x : ℕ) → 0 < m → digit_b x ≡ true → digits (m * 10 + (x - 48)) ≡ digits m ++ (x ∷ [])
digit-more m x h e =
    let d = digit-range x e in
    let q : (m * 10 + (x - 48)) / 10 ≡ m = omega arith in
    let r : 48 + (m * 10 + (x - 48)) % 10 ≡ x = omega arith in
    digits_more (m * 10 + (x - 48)) (omega arith) ∙ rw (q, r)

-- the digits of the value of digits behind those of a number above 0 are all these digits
grow : (l : List ℕ) (m : ℕ) → 0 < m → digits (val_acc m l) ≡ digits m ++ take (lead l) l
grow [] m h = sym (append-nil (digits m))
grow (x ∷ l) m h =
    by_test (digit_b x)
    (λ e. rw e (grow l (m * 10 + (x - 48)) (omega arith) ∙ rw (digit-more m x h e) (append_assoc (digits m) (x ∷ []) (take (lead l) l))))
    (λ e. rw e (sym (append-nil (digits m))))

-- digits that begin with no `0` are the digits of their value
whole : (l : List ℕ) → ((lead l ≡ 0) → ⊥) → ((get_or l 0 0 ≡ 48) → ⊥) → digits (val_acc 0 l) ≡ take (lead l) l
whole [] h g = absurd (h refl)
whole (x ∷ l) h g =
    by_test (digit_b x)
    (λ e.
    let d = digit-range x e in
    let q : 0 * 10 + (x - 48) ≡ x - 48 = omega arith in
    let r : 48 + (x - 48) ≡ x = omega arith in
    rw (e, q) (grow l (x - 48) (omega (arith, g)) ∙ rw (digits-one (x - 48) (omega arith), r)))
    (λ e. absurd (h (rw e)))

-- what is read is within the limit, and is its digits, then CR LF, up to the place that is answered
pub num-sound : (lim : ℕ) (s : List ℕ) (at n e : ℕ) → num_def lim s at ≡ Some (n, e) → (n ≤ lim) × (drop at s ≡ digits n ++ (13 ∷ 10 ∷ drop e s))
num-sound lim s at n e h =
    num-says lim s at n e h
    (λ z f. (f.limit, step s at (inside s at (omega arith)) ∙ rw (z, crlf-sound s (at + 1) f.crlf, f.ended, ← f.value, digits-one 0 (omega arith))))
    (λ z l f.
    let d : List ℕ = drop at s in
    let w = whole d l (λ y. z (get_or-drop0 s at ∙ y)) in
    (f.limit, sym (take-append-drop (lead d) d) ∙ rw (drop-drop (lead d) at s, crlf-sound s (at + lead d) f.crlf, f.ended, ← w, f.value)))
