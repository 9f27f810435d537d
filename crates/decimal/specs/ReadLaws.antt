-- Laws of the definitions of Read.antt: one for each way in which the code answers, and what an answer says. Assumes nothing.
use Rattle.std.specs.Prelude.{◌≡◌, refl, Bool, true, false, List, [], ◌∷◌, ℕ, zero, suc, ◌+◌, ◌*◌, ◌-◌, ◌<◌, ◌≤◌, leb, eqb, length, get_or}
use Rattle.std.specs.Prelude.{drop, Option, Some, None}
use Rattle.std.proofs.lemmas.Bool.{false≢true, eqb-false, lt-leb}
use Rattle.std.proofs.Common.{arith, length-drop, drop_of_length-le, leb-true, eqb-true, le-leb, eq-eqb, ne_eqb}
use Rattle.std.proofs.lemmas.Option.{some_pair_parts}
use Rattle.buffer.specs.Cases.{by_test}
use Rattle.buffer.specs.Places.{get_or-out, inside, step}
use Rattle.decimal.specs.Read.{both, digit_b, crlf_b, lead, val_acc, num_if, ended_def, fin_def, num_def, digits_at}

-- where both tests hold, each holds
pub both_true : (a b : Bool) → both a b ≡ true → (a ≡ true) × (b ≡ true)
both_true true b e = (refl, e)
both_true false b e = absurd (false≢true e)

-- a digit is 48 to 57
pub digit-range : (x : ℕ) → digit_b x ≡ true → (48 ≤ x) × (x ≤ 57)
digit-range x e =
    let p = both_true (leb 48 x) (leb x 57) e in
    (leb-true 48 x p.0, leb-true x 57 p.1)

-- CR LF that is found lies in the list
pub crlf-in : (s : List ℕ) (i : ℕ) → crlf_b s i ≡ true → i + 1 < length s
unfolding crlf_b
crlf-in s i e =
    let p = both_true (eqb (get_or s i 0) 13) _ e in
    let lf = eqb-true (get_or s (i + 1) 0) 10 p.1 in
    inside s (i + 1) (omega arith)

-- no CR LF where the list ends before its LF
pub crlf-out : (s : List ℕ) (i : ℕ) → length s ≤ i + 1 → crlf_b s i ≡ false
crlf-out s i h = by_test (crlf_b s i) (λ e. absurd (omega (arith, crlf-in s i e))) (λ e. e)

-- no CR LF where no CR stands
pub crlf-not : (s : List ℕ) (i : ℕ) → ((get_or s i 0 ≡ 13) → ⊥) → crlf_b s i ≡ false
unfolding crlf_b
crlf-not s i h = rw (ne_eqb (get_or s i 0) 13 h)

-- where CR stands, the next byte decides
pub crlf-is : (s : List ℕ) (i : ℕ) → get_or s i 0 ≡ 13 → crlf_b s i ≡ eqb (get_or s (i + 1) 0) 10
unfolding crlf_b
crlf-is s i h = rw (eq-eqb (get_or s i 0) 13 h)

-- where no digit stands, no digits begin
pub lead-stop : (s : List ℕ) (i : ℕ) → digit_b (get_or s i 0) ≡ false → lead (drop i s) ≡ 0
lead-stop [] zero e = refl
lead-stop [] (suc i) e = refl
lead-stop (x ∷ s) zero e = rw e
lead-stop (x ∷ s) (suc i) e = lead-stop s i e

-- and the value stays
pub val-stop : (a : ℕ) (s : List ℕ) (i : ℕ) → digit_b (get_or s i 0) ≡ false → val_acc a (drop i s) ≡ a
val-stop a [] zero e = refl
val-stop a [] (suc i) e = refl
val-stop a (x ∷ s) zero e = rw e
val-stop a (x ∷ s) (suc i) e = val-stop a s i e

-- more digits make no smaller value
val-ge : (a : ℕ) (l : List ℕ) → a ≤ val_acc a l
val-ge a [] = omega arith
val-ge a (x ∷ l) =
    let r = val-ge (a * 10 + (x - 48)) l in
    by_test (digit_b x) (λ e. rw e (omega arith)) (λ e. rw e (omega arith))

-- what a digit at i, behind digits of value v, says: it lies in the list, there is one digit more than behind it, and it joins the value
pub record Turn (s : List ℕ) (i v : ℕ) : Type 0 where
  pub within : i < length s
  pub low : 48 ≤ get_or s i 0
  pub high : get_or s i 0 ≤ 57
  pub one_more : lead (drop i s) ≡ lead (drop (i + 1) s) + 1
  pub joins : val_acc v (drop i s) ≡ val_acc (v * 10 + (get_or s i 0 - 48)) (drop (i + 1) s)
  pub least : v * 10 + (get_or s i 0 - 48) ≤ val_acc v (drop i s)

-- every digit says that
pub turn : (s : List ℕ) (i v : ℕ) → digit_b (get_or s i 0) ≡ true → Turn s i v
turn s i v e =
    let d = digit-range (get_or s i 0) e in
    let h = inside s i (omega arith) in
    record {
      within = h;
      low = d.0;
      high = d.1;
      one_more = rw (step s i h, e) (omega arith);
      joins = rw (step s i h, e);
      least = rw (step s i h, e) (val-ge (v * 10 + (get_or s i 0 - 48)) (drop (i + 1) s));
    }

-- a number within the limit is judged by its CR LF
pub fin-within : (lim : ℕ) (s : List ℕ) (e v : ℕ) → v ≤ lim → fin_def lim s e v ≡ ended_def s e v
unfolding fin_def
fin-within lim s e v h = rw (le-leb v lim h)

-- a number above the limit is bad
pub fin-over : (lim : ℕ) (s : List ℕ) (e v : ℕ) → lim < v → fin_def lim s e v ≡ None
unfolding fin_def
fin-over lim s e v h = rw (lt-leb v lim h)

-- a `0` stands alone
pub num-zero : (lim : ℕ) (s : List ℕ) (at : ℕ) → get_or s at 0 ≡ 48 → num_def lim s at ≡ fin_def lim s (at + 1) 0
unfolding num_def
num-zero lim s at h = rw (eq-eqb (get_or s at 0) 48 h)

-- no digits: bad
pub num-none : (lim : ℕ) (s : List ℕ) (at : ℕ) → ((get_or s at 0 ≡ 48) → ⊥) → lead (drop at s) ≡ 0 → num_def lim s at ≡ None
unfolding num_def
num-none lim s at h e = rw (ne_eqb (get_or s at 0) 48 h, e)

-- past the end: bad
pub num-out : (lim : ℕ) (s : List ℕ) (at : ℕ) → length s ≤ at → num_def lim s at ≡ None
unfolding num_def
num-out lim s at h = rw (get_or-out s at h, drop_of_length-le s h)

-- digits that begin with no `0` and end at i have the value v
pub num-more : (lim : ℕ) (s : List ℕ) (at i v : ℕ) → ((get_or s at 0 ≡ 48) → ⊥) → at < i → at + lead (drop at s) ≡ i → val_acc 0 (drop at s) ≡ v
    → num_def lim s at ≡ fin_def lim s i v
unfolding num_def
num-more lim s at i v h l e f = rw (ne_eqb (get_or s at 0) 48 h, ne_eqb (lead (drop at s)) 0 (omega arith), e, f)

-- digits whose value is above the limit: bad
pub num-over : (lim : ℕ) (s : List ℕ) (at : ℕ) → ((get_or s at 0 ≡ 48) → ⊥) → lim < val_acc 0 (drop at s) → num_def lim s at ≡ None
unfolding num_def
num-over lim s at h l =
    rw (ne_eqb (get_or s at 0) 48 h, fin-over lim s (at + lead (drop at s)) (val_acc 0 (drop at s)) l)
    (by_test (eqb (lead (drop at s)) 0) (λ e. rw e) (λ e. rw e))

-- what a number that was read says: its value, its end, its limit and its CR LF
pub record FinSays (lim : ℕ) (s : List ℕ) (e v n e' : ℕ) : Type 0 where
  pub value : v ≡ n
  pub ended : e + 2 ≡ e'
  pub limit : n ≤ lim
  pub crlf : crlf_b s e ≡ true

-- a number that was read says all that
pub fin-says : (lim : ℕ) (s : List ℕ) (e v n e' : ℕ) → fin_def lim s e v ≡ Some (n, e') → FinSays lim s e v n e'
unfolding fin_def ended_def
fin-says lim s e v n e' h = go (leb v lim) (crlf_b s e) refl refl h
  where
    go : (a b : Bool) → leb v lim ≡ a → crlf_b s e ≡ b → num_if a (num_if b (Some (v, e + 2)) None) None ≡ Some (n, e') → FinSays lim s e v n e'
    go true true p q k =
        let l = leb-true v lim p in
        let y = some_pair_parts v n (e + 2) e' k in
        let i = y.0 in
        record { value = i; ended = y.1; limit = omega arith; crlf = q }
    go true false p q k = absurd (let z : ◌≡◌ {A = ℕ} 0 1 = cc in omega arith)
    go false b p q k = absurd (let z : ◌≡◌ {A = ℕ} 0 1 = cc in omega arith)

-- a number that was read began with `0`, or with digits of its value
pub num-says : {X : Type 0} (lim : ℕ) (s : List ℕ) (at n e : ℕ) → num_def lim s at ≡ Some (n, e)
    → (get_or s at 0 ≡ 48 → FinSays lim s (at + 1) 0 n e → X)
    → (((get_or s at 0 ≡ 48) → ⊥) → ((lead (drop at s) ≡ 0) → ⊥) → FinSays lim s (at + lead (drop at s)) (val_acc 0 (drop at s)) n e → X)
    → X
unfolding num_def
num-says {X} lim s at n e h zero' more = go (eqb (get_or s at 0) 48) (eqb (lead (drop at s)) 0) refl refl
  where
    go : (a b : Bool) → eqb (get_or s at 0) 48 ≡ a → eqb (lead (drop at s)) 0 ≡ b → X
    go true b p q = zero' (eqb-true _ _ p) (fin-says lim s _ _ n e (rw p at h))
    go false true p q = absurd (let k = rw (p, q) at h in let z : ◌≡◌ {A = ℕ} 0 1 = cc in omega arith)
    go false false p q = more (eqb-false _ _ p) (eqb-false _ _ q) (fin-says lim s _ _ n e (rw (p, q) at h))

-- a number that was read is no more than its limit, and ends in the list
pub num-bounds : (lim : ℕ) (s : List ℕ) (at n e : ℕ) → num_def lim s at ≡ Some (n, e) → (n ≤ lim) × (e ≤ length s)
num-bounds lim s at n e h =
    num-says lim s at n e h
    (λ z f. (f.limit, omega (arith, crlf-in s (at + 1) f.crlf)))
    (λ z l f. (f.limit, omega (arith, crlf-in s (at + lead (drop at s)) f.crlf)))

-- ---- the digits alone

-- past the end there are none
pub digits-out : (lim : ℕ) (s : List ℕ) (at : ℕ) → length s ≤ at → digits_at lim s at ≡ None
unfolding digits_at
digits-out lim s at h = rw (get_or-out s at h, drop_of_length-le s h)

-- a `0` stands alone
pub digits-zero : (lim : ℕ) (s : List ℕ) (at : ℕ) → get_or s at 0 ≡ 48 → digits_at lim s at ≡ Some (0, at + 1)
unfolding digits_at
digits-zero lim s at h = rw (eq-eqb (get_or s at 0) 48 h)

-- no digit
pub digits-none : (lim : ℕ) (s : List ℕ) (at : ℕ) → ((get_or s at 0 ≡ 48) → ⊥) → lead (drop at s) ≡ 0 → digits_at lim s at ≡ None
unfolding digits_at
digits-none lim s at h e = rw (ne_eqb (get_or s at 0) 48 h, e)

-- digits that begin with no `0` and end at i have the value v, which is no more than lim
pub digits-more : (lim : ℕ) (s : List ℕ) (at i v : ℕ) → ((get_or s at 0 ≡ 48) → ⊥) → at < i → at + lead (drop at s) ≡ i → val_acc 0 (drop at s) ≡ v → v ≤ lim
    → digits_at lim s at ≡ Some (v, i)
unfolding digits_at
digits-more lim s at i v h l e f g = rw (ne_eqb (get_or s at 0) 48 h, ne_eqb (lead (drop at s)) 0 (omega arith), e, f, le-leb v lim g)

-- digits whose value is above the limit
pub digits-over : (lim : ℕ) (s : List ℕ) (at : ℕ) → ((get_or s at 0 ≡ 48) → ⊥) → lim < val_acc 0 (drop at s) → digits_at lim s at ≡ None
unfolding digits_at
digits-over lim s at h l =
    rw (ne_eqb (get_or s at 0) 48 h, lt-leb (val_acc 0 (drop at s)) lim l)
    (by_test (eqb (lead (drop at s)) 0) (λ e. rw e) (λ e. rw e))

-- a number is digits, and CR LF behind them
abbrev pub ended_of : List ℕ → Option (ℕ × ℕ) → Option (ℕ × ℕ)
ended_of s None = None
ended_of s (Some (v, e)) = ended_def s e v

pub num-digits : (lim : ℕ) (s : List ℕ) (at : ℕ) → num_def lim s at ≡ ended_of s (digits_at lim s at)
unfolding num_def fin_def digits_at
num-digits lim s at =
    by_test (eqb (get_or s at 0) 48)
    (λ a. rw a (fin-within lim s (at + 1) 0 (omega arith)))
    (λ a.
    by_test (eqb (lead (drop at s)) 0)
    (λ b. rw (a, b))
    (λ b. by_test (leb (val_acc 0 (drop at s)) lim) (λ c. rw (a, b, c)) (λ c. rw (a, b, c))))

-- no more digits begin a list than it is long
pub lead-within : (l : List ℕ) → lead l ≤ length l
lead-within [] = omega arith
lead-within (x ∷ l) = let k = lead-within l in by_test (digit_b x) (λ e. rw e (omega arith)) (λ e. rw e (omega arith))

-- digits that are found are within their limit, and end in the list
pub digits-in : (lim : ℕ) (s : List ℕ) (at v e : ℕ) → digits_at lim s at ≡ Some (v, e) → (v ≤ lim) × (e ≤ length s)
unfolding digits_at
digits-in lim s at v e h = go (eqb (get_or s at 0) 48) (eqb (lead (drop at s)) 0) (leb (val_acc 0 (drop at s)) lim) refl refl refl h
  where
    go : (a b c : Bool) → eqb (get_or s at 0) 48 ≡ a → eqb (lead (drop at s)) 0 ≡ b → leb (val_acc 0 (drop at s)) lim ≡ c
        → num_if a (Some (0, at + 1)) (num_if b None (num_if c (Some (val_acc 0 (drop at s), at + lead (drop at s))) None)) ≡ Some (v, e)
        → (v ≤ lim) × (e ≤ length s)
    go true b c p q r k =
        let y = some_pair_parts 0 v (at + 1) e k in
        let i = inside s at (omega (arith, eqb-true _ _ p)) in
        (omega arith, omega arith)
    go false true c p q r k = absurd (let z : ◌≡◌ {A = ℕ} 0 1 = cc in omega arith)
    go false false true p q r k =
        let y = some_pair_parts (val_acc 0 (drop at s)) v (at + lead (drop at s)) e k in
        let l = leb-true _ _ r in
        let w = lead-within (drop at s) in
        let j = eqb-false _ _ q in
        (omega arith, omega (arith, length-drop at s))
    go false false false p q r k = absurd (let z : ◌≡◌ {A = ℕ} 0 1 = cc in omega arith)
