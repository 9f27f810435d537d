-- Bytes and CR LF behind them, and lines, of which a beginning stands in the bytes. Assumes nothing.
use Rattle.std.specs.Prelude.{◌≡◌, refl, Bool, true, false, [], ◌∷◌, ◌++◌, ℕ, suc, ◌+◌, ◌-◌, ◌≤◌, ◌<◌, leb, eqb, length, get_or, take, drop}
use Rattle.std.specs.Prelude.{replicate, Result, Ok, Err}
use Rattle.std.proofs.Common.{sym, ap, ◌∙◌, append_assoc, arith, length-append, length-drop, take-append-drop, drop-drop, length-take-le, leb-true, leb-false, eqb-true}
use Rattle.std.proofs.lemmas.List.{length-replicate}
use Rattle.buffer.specs.Cases.{by_test}
use Rattle.buffer.specs.Same.{Bytes}
use Rattle.buffer.specs.Places.{first, after, step}
use Rattle.resp3.specs.Value.{crlf, plain_b, one_line}
use Rattle.resp3.specs.Ends.{plain}
use Rattle.resp3_prefix.specs.declared.NotWhole.{NotWhole}
use Rattle.resp3_prefix.specs.declared.NotWhole.TheVariants.{Lacks, Never}
use Rattle.resp3_prefix.specs.Begun.{crlf_begun}
use Rattle.resp3_prefix.specs.Paths as paths
use Rattle.resp3_prefix.specs.Split.{cut, none_left}

-- x says that bytes are lacking, no more than n
pub record Early (x : Result ℕ NotWhole) (n : ℕ) : Type 0 where
  pub k : ℕ
  pub is : x ≡ Err (Lacks k)
  pub least : k ≤ n

pub lacks : {x : Result ℕ NotWhole} {n : ℕ} (k : ℕ) → x ≡ Err (Lacks k) → k ≤ n → Early x n
lacks k e l = record { k = k; is = e; least = l }

-- ---- what each answer on CR LF says

-- CR and then the end
crlf-cr : (s : Bytes) (i : ℕ) → drop i s ≡ 13 ∷ [] → crlf_begun s i ≡ Err (Lacks 1)
crlf-cr s i e =
    let n : length s ≡ i + 1 = omega (arith, ap length e, length-drop i s) in
    paths.crlf-cr s i (omega arith) (first s i 13 [] e) (omega arith)

-- the beginning of CR LF before its LF
pub cr-only : (m q : Bytes) → crlf [] ≡ m ++ q → 0 < length q → 0 < length m → m ≡ 13 ∷ []
cr-only [] q e h g = absurd (omega arith)
cr-only (x ∷ []) q e h g = let k : x ≡ 13 = cc in ap (λ (y : ℕ). y ∷ []) k
cr-only (x ∷ y ∷ m) q e h g = absurd (omega (arith, ap length e, length-append (x ∷ y ∷ m) q))

-- by the answer that bytes are lacking
pub crlf-lacks : {X : Type 0} (s : Bytes) (i k : ℕ) → crlf_begun s i ≡ Err (Lacks k)
    → (length s ≤ i → i + 2 - length s ≡ k → X) → (length s ≡ i + 1 → drop i s ≡ 13 ∷ [] → 1 ≡ k → X) → X
unfolding crlf_begun
crlf-lacks s i k e f g =
    by_test (leb (length s) i)
    (λ t. let h : ◌≡◌ {A = Result ℕ NotWhole} (Err (Lacks (i + 2 - length s))) (Err (Lacks k)) = rw t at e in f (leb-true (length s) i t) cc)
    (λ t.
    let o = leb-false (length s) i t in
    by_test (eqb (get_or s i 0) 13)
    (λ c.
    by_test (leb (length s) (i + 1))
    (λ u.
    let h : ◌≡◌ {A = Result ℕ NotWhole} (Err (Lacks 1)) (Err (Lacks k)) = rw (t, c, u) at e in
    let m = leb-true (length s) (i + 1) u in
    let n : length s ≡ i + 1 = omega arith in
    let d : drop (i + 1) s ≡ [] = let z = length-drop (i + 1) s in none_left (drop (i + 1) s) (omega arith) in
    g n (step s i o ∙ rw (eqb-true (get_or s i 0) 13 c, d)) cc)
    (λ u.
    by_test (eqb (get_or s (i + 1) 0) 10)
    (λ y. absurd (let h : ◌≡◌ {A = Result ℕ NotWhole} (Ok (i + 2)) (Err (Lacks k)) = rw (t, c, u, y) at e in let z : ◌≡◌ {A = ℕ} 0 1 = cc in omega arith))
    (λ y. absurd (let h : ◌≡◌ {A = Result ℕ NotWhole} (Err Never) (Err (Lacks k)) = rw (t, c, u, y) at e in let z : ◌≡◌ {A = ℕ} 0 1 = cc in omega arith))))
    (λ c. absurd (let h : ◌≡◌ {A = Result ℕ NotWhole} (Err Never) (Err (Lacks k)) = rw (t, c) at e in let z : ◌≡◌ {A = ℕ} 0 1 = cc in omega arith)))

-- ---- so many bytes, and CR LF

-- bytes x that end at i and the CR LF behind them, of which q is lacking
pub frame-early : (s : Bytes) (p i : ℕ) (x q : Bytes) → p ≤ length s → i ≡ p + length x → x ++ crlf [] ≡ drop p s ++ q → 0 < length q
    → Early (crlf_begun s i) (length q)
frame-early s p i x q l n e o =
    let t : Bytes = drop p s in
    let a : length x + 2 ≡ length t + length q = omega (arith, ap length e, length-append x (crlf []), length-append t q) in
    let b = length-drop p s in
    by_test (leb (length s) i)
    (λ h. let g = leb-true (length s) i h in lacks (i + 2 - length s) (paths.crlf-out s i g) (omega arith))
    (λ h.
    let g = leb-false (length s) i h in
    let z = cut x t q (crlf []) (sym e) (omega arith) in
    let c : z.m ≡ 13 ∷ [] = cr-only z.m q z.back o (omega (arith, ap length z.front, length-append x z.m)) in
    let d : drop i s ≡ 13 ∷ [] = ap (λ (j : ℕ). drop j s) n ∙ after s p x z.m z.front ∙ c in
    lacks 1 (crlf-cr s i d) (omega arith))

-- what stands at p up to i, or may stand there, with the CR LF behind it
pub record Frame (s : Bytes) (p i k : ℕ) : Type 0 where
  pub x : Bytes
  pub q : Bytes
  pub ends : p + length x ≡ i
  pub is : x ++ crlf [] ≡ drop p s ++ q
  pub long : length q ≡ k

-- bytes that lack k are completed by k
pub frame_found : (s : Bytes) (p i k : ℕ) → p ≤ length s → p ≤ i → crlf_begun s i ≡ Err (Lacks k) → Frame s p i k
frame_found s p i k l o e =
    let t : Bytes = drop p s in
    let b = length-drop p s in
    crlf-lacks s i k e
    (λ h n.
    let w : Bytes = replicate (i - length s) 58 in
    let c : length w ≡ i - length s = length-replicate (i - length s) 58 in
    record {
      x = t ++ w;
      q = w ++ crlf [];
      ends = omega (arith, length-append t w);
      is = append_assoc t w (crlf []);
      long = omega (arith, length-append w (crlf []));
    })
    (λ h d n.
    let x : Bytes = take (i - p) t in
    let j : p + (i - p) ≡ i = omega arith in
    let f : drop (i - p) t ≡ 13 ∷ [] = drop-drop (i - p) p s ∙ ap (λ (m : ℕ). drop m s) j ∙ d in
    let g : x ++ (13 ∷ []) ≡ t = ap (λ (y : Bytes). x ++ y) (sym f) ∙ take-append-drop (i - p) t in
    record {
      x = x;
      q = 10 ∷ [];
      ends = let z = length-take-le (i - p) t (omega arith) in omega arith;
      is = sym (append_assoc x (13 ∷ []) (10 ∷ [])) ∙ ap (λ (y : Bytes). y ++ (10 ∷ [])) g;
      long = n;
    })

-- ---- lines

-- the plain bytes that a list begins with are a line's body
pub plain-line : (t : Bytes) → one_line (take (plain t) t) ≡ true
unfolding one_line plain
plain-line [] = refl
plain-line (y ∷ t) = by_test (plain_b y) (λ e. rw e (rw e (plain-line t))) (λ e. rw e)

-- there are no more than all
pub plain-within : (t : Bytes) → plain t ≤ length t
unfolding plain
plain-within [] = omega arith
plain-within (y ∷ t) = let k = plain-within t in by_test (plain_b y) (λ e. rw e (omega arith)) (λ e. rw e (omega arith))

-- a body before something: as far as the body goes
pub plain_body : (x r : Bytes) → one_line x ≡ true → plain (x ++ r) ≡ length x + plain r
unfolding one_line plain
plain_body [] r h = omega arith
plain_body (y ∷ x) r h = go (plain_b y) refl h (λ k. plain_body x r k)
  where
    go : (b : Bool) → plain_b y ≡ b → one_line (y ∷ x) ≡ true → (one_line x ≡ true → plain (x ++ r) ≡ length x + plain r)
        → plain (y ∷ (x ++ r)) ≡ suc (length x) + plain r
    go true e k ih = rw (e, plain) (let z = ih (rw (e, one_line) at k) in omega arith)
    go false e k ih = absurd (let z = rw (e, one_line) at k in let u : ◌≡◌ {A = ℕ} 0 1 = cc in omega arith)

-- the beginning of a body is one
pub line-front : (t m : Bytes) → one_line (t ++ m) ≡ true → one_line t ≡ true
unfolding one_line
line-front [] m h = refl
line-front (y ∷ t) m h = go (plain_b y) refl h (λ k. line-front t m k)
  where
    go : (b : Bool) → plain_b y ≡ b → one_line (y ∷ (t ++ m)) ≡ true → (one_line (t ++ m) ≡ true → one_line t ≡ true) → one_line (y ∷ t) ≡ true
    go true e k ih = rw (e, one_line) (ih (rw (e, one_line) at k))
    go false e k ih = absurd (let z = rw (e, one_line) at k in let u : ◌≡◌ {A = ℕ} 0 1 = cc in omega arith)
