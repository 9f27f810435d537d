-- What is written is read: a number's digits and CR LF are read as that number. Assumes nothing.
use Rattle.std.specs.Prelude.{◌≡◌, true, List, [], ◌∷◌, ◌++◌, ℕ, zero, suc, ◌+◌, ◌*◌, ◌-◌, ◌/◌, ◌%◌, ◌<◌, ◌≤◌, length, get_or, drop, Some}
use Rattle.std.proofs.Common.{sym, ap, ◌∙◌, append_assoc, arith, le-leb}
use Rattle.decimal.specs.Digits.{digits}
use Rattle.decimal.specs.DigitLaws.{digits-one, digits_more, count-one, count-more, digits-cases, count-pos}
use Rattle.buffer.specs.Places.{first, after, get_or-drop0}
use Rattle.decimal.specs.Read.{digit_b, crlf_b, lead, val_acc, ended_def, fin_def, num_def}
use Rattle.decimal.specs.ReadLaws.{num-zero, num-more, fin-within}

-- 48 and a number below ten is a digit
digit-is : (d : ℕ) → d < 10 → digit_b (48 + d) ≡ true
digit-is d h = rw (le-leb 48 (48 + d) (omega arith), le-leb (48 + d) 57 (omega arith))

-- the last digit goes over to what follows
regroup : (n : ℕ) → 10 ≤ n → (m : List ℕ) → digits n ++ m ≡ digits (n / 10) ++ ((48 + n % 10) ∷ m)
regroup n h m = rw (digits_more n h) (append_assoc (digits (n / 10)) ((48 + n % 10) ∷ []) m)

-- the value of a number's digits is the number
val-digits : (n : ℕ) (m : List ℕ) → val_acc 0 (digits n ++ m) ≡ val_acc n m
val-digits =
    digits-cases (λ n. (m : List ℕ) → val_acc 0 (digits n ++ m) ≡ val_acc n m)
    (λ n h m. let e : 0 * 10 + (48 + n - 48) ≡ n = omega arith in rw (digits-one n h, digit-is n h, e))
    (λ n h ih m.
    let e : n / 10 * 10 + (48 + n % 10 - 48) ≡ n = omega arith in
    rw (regroup n h m) (ih ((48 + n % 10) ∷ m) ∙ rw (digit-is (n % 10) (omega arith), e)))

-- a number's digits are all digits
lead-digits : (n : ℕ) (m : List ℕ) → lead (digits n ++ m) ≡ length (digits n) + lead m
lead-digits =
    digits-cases (λ n. (m : List ℕ) → lead (digits n ++ m) ≡ length (digits n) + lead m)
    (λ n h m. rw (digits-one n h, digit-is n h) (omega arith))
    (λ n h ih m. rw (regroup n h m, count-more n h) (ih ((48 + n % 10) ∷ m) ∙ rw (digit-is (n % 10) (omega arith)) (omega arith)))

-- the first digit of a number above 0 is no `0`
head-digits : (n : ℕ) → 0 < n → (m : List ℕ) → (get_or (digits n ++ m) 0 0 ≡ 48) → ⊥
head-digits =
    digits-cases (λ n. 0 < n → (m : List ℕ) → (get_or (digits n ++ m) 0 0 ≡ 48) → ⊥)
    (λ n h p m e. let z = rw (digits-one n h) at e in omega arith)
    (λ n h ih p m e. ih (omega arith) ((48 + n % 10) ∷ m) (rw (regroup n h m) at e))

-- CR LF that stands there is found
pub crlf-law : (s : List ℕ) (e : ℕ) (r : List ℕ) → drop e s ≡ 13 ∷ 10 ∷ r → crlf_b s e ≡ true
unfolding crlf_b
crlf-law s e r h = rw (first s e 13 (10 ∷ r) h, first s (e + 1) 10 r (after s e (13 ∷ []) (10 ∷ r) h))

-- a number within the limit with CR LF behind it is read
fin-ok : (lim : ℕ) (s : List ℕ) (e v : ℕ) (r : List ℕ) → v ≤ lim → drop e s ≡ 13 ∷ 10 ∷ r → fin_def lim s e v ≡ Some (v, e + 2)
unfolding ended_def
fin-ok lim s e v r h c = fin-within lim s e v h ∙ rw (crlf-law s e r c)

-- what is written is read: digits of a number within the limit, then CR LF, are read as that number up to behind the LF
pub num-law : (lim : ℕ) (s : List ℕ) (at n : ℕ) (r : List ℕ) → n ≤ lim → drop at s ≡ digits n ++ (13 ∷ 10 ∷ r)
    → num_def lim s at ≡ Some (n, at + length (digits n) + 2)
num-law lim s at zero r h e =
    let d = digits-one 0 (omega arith) in
    let e' : drop at s ≡ 48 ∷ 13 ∷ 10 ∷ r = rw d at e in
    rw (count-one 0 (omega arith))
    (num-zero lim s at (first s at 48 (13 ∷ 10 ∷ r) e') ∙ fin-ok lim s (at + 1) 0 r h (after s at (48 ∷ []) (13 ∷ 10 ∷ r) e'))
num-law lim s at (suc k) r h e =
    let n : ℕ = suc k in
    let q : List ℕ = 13 ∷ 10 ∷ r in
    num-more lim s at (at + length (digits n)) n
    (λ z. head-digits n (omega arith) q (ap (λ (l : List ℕ). get_or l 0 0) (sym e) ∙ sym (get_or-drop0 s at) ∙ z))
    (omega (arith, count-pos n))
    (rw e (omega (arith, lead-digits n q)))
    (rw e (val-digits n q))
    ∙ fin-ok lim s (at + length (digits n)) n r h (after s at (digits n) q e)

-- the first digit is at least `0`, so it is no sign
pub head-ge : (n : ℕ) (m : List ℕ) → 48 ≤ get_or (digits n ++ m) 0 0
head-ge =
    digits-cases (λ n. (m : List ℕ) → 48 ≤ get_or (digits n ++ m) 0 0)
    (λ n h m. rw (digits-one n h) (omega arith))
    (λ n h ih m. rw (regroup n h m) (ih ((48 + n % 10) ∷ m)))
