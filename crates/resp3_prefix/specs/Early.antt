-- Bytes that end inside something valid are found to lack no more than it has behind them: values with none inside. Assumes nothing.
use Rattle.std.specs.Prelude.{◌≡◌, Bool, true, false, cond, leb, get_or, ℤ, pos, negsuc, Result, Err}
use Rattle.std.proofs.Math.Path.{refl, ap}
use Rattle.std.proofs.Common.{sym, ◌∙◌, drop_of_length-le}
use mathlib.Core.List.{[], ◌∷◌, ◌++◌, append_assoc, append-nil}
use Prim.Native.Nat.{ℕ, suc, ◌+◌, ◌*◌, ◌-◌, ◌≤◌, ◌<◌}
use native.Mathlib.Omega.{arith}
use Rattle.std.proofs.Math.ListN.{length, drop, length-append, length-drop, get_or-append}
use borrow.Author.Tests.{leb-true, leb-false}
use Rattle.buffer.specs.Cases.{by_test}
use Rattle.buffer.specs.Same.{Bytes}
use Rattle.buffer.specs.Places.{get_or-drop0, get_or-out, first, after, step}
use Rattle.config.specs.Limits.{max_bytes}
use Rattle.decimal.specs.Digits.{digits}
use Rattle.decimal.specs.DigitLaws.{count-pos}
use Rattle.decimal.specs.NumLaw.{head-ge}
use Rattle.resp3.specs.Value.{crlf, counted, framed, integer, plain_b, one_line, Fits64}
use Rattle.resp3.specs.Ends.{plain}
use Rattle.resp3_prefix.specs.declared.NotWhole.{NotWhole}
use Rattle.resp3_prefix.specs.declared.NotWhole.TheVariants.{Lacks}
use Rattle.resp3_prefix.specs.Begun.{crlf_begun, count_begun, line_begun, blob_begun, string_begun, one_begun, verbatim_body, verbatim_digits, verbatim_begun}
use Rattle.resp3_prefix.specs.Begun.{digits_of, minus_of, integer_begun, boolean_begun}
use Rattle.resp3_prefix.specs.Paths as paths
use Rattle.resp3_prefix.specs.Nulls as nulls
use Rattle.resp3_prefix.specs.Split.{cut}
use Rattle.resp3_prefix.specs.Counts.{Stands, whole, nothing, digits-all, digits-some, ended, stands}
use Rattle.resp3_prefix.specs.Pieces.{Early, lacks, cr-only, frame-early, plain_body, line-front}

-- the same, in other words
pub early-as : {x y : Result ℕ NotWhole} {n : ℕ} → y ≡ x → Early x n → Early y n
early-as e h = record { k = h.k; is = e ∙ h.is; least = h.least }

-- a byte and what follows it: none of it stands there, or the byte does
pub open-byte : {X : Type 0} (s : Bytes) (p x : ℕ) (b q : Bytes) → x ∷ b ≡ drop p s ++ q
    → (length s ≤ p → q ≡ x ∷ b → X) → (p < length s → get_or s p 0 ≡ x → b ≡ drop (p + 1) s ++ q → X) → X
open-byte s p x b q e f g =
    by_test (leb (length s) p)
    (λ t.
    let l = leb-true (length s) p t in
    let d : drop p s ≡ [] = drop_of_length-le s {i = p} l in
    f l (ap (λ (z : Bytes). z ++ q) (sym d) ∙ sym e))
    (λ t.
    let l = leb-false (length s) p t in
    let y : x ∷ b ≡ get_or s p 0 ∷ (drop (p + 1) s ++ q) = e ∙ ap (λ (z : Bytes). z ++ q) (step s p l) in
    g l (let z : get_or s p 0 ≡ x = cc in z) (let z : b ≡ drop (p + 1) s ++ q = cc in z))

module _ (s : Bytes) (p : ℕ) (l : p ≤ length s) (q : Bytes) (o : 0 < length q) where
  -- ---- lines and blobs

  pub line-early : (x : Bytes) → one_line x ≡ true → x ++ crlf [] ≡ drop p s ++ q → Early (line_begun s p) (length q)
  unfolding plain plain_b
  line-early x k e =
      let t : Bytes = drop p s in
      let a = length-drop p s in
      by_test (leb (length t) (length x))
      (λ b.
      let z = cut t x (crlf []) q e (leb-true (length t) (length x) b) in
      let f = line-front t z.m (ap one_line (sym z.front) ∙ k) in
      let n : plain t ≡ length t = ap plain (sym (append-nil t)) ∙ plain_body t [] f ∙ (let y : length t + 0 ≡ length t = omega arith in y) in
      let i : ℕ = p + length t in
      early-as (paths.line-is s p i (ap (λ (j : ℕ). p + j) n))
      (lacks (i + 2 - length s) (paths.crlf-out s i (omega arith)) (omega (arith, ap length z.back, length-append z.m (crlf [])))))
      (λ b.
      let g = leb-false (length t) (length x) b in
      let z = cut x t q (crlf []) (sym e) (omega arith) in
      let c : z.m ≡ 13 ∷ [] = cr-only z.m q z.back o (omega (arith, ap length z.front, length-append x z.m)) in
      let d : t ≡ x ++ (13 ∷ []) = z.front ∙ ap (λ (y : Bytes). x ++ y) c in
      let n : plain t ≡ length x = ap plain d ∙ plain_body x (13 ∷ []) k ∙ (let y : length x + 0 ≡ length x = omega arith in y) in
      early-as (paths.line-is s p (p + length x) (ap (λ (j : ℕ). p + j) n)) (frame-early s p (p + length x) x q l refl e o))

  pub blob-early : (x : Bytes) → length x ≤ max_bytes → framed x [] ≡ drop p s ++ q → Early (blob_begun s p) (length q)
  blob-early x m e = go (stands max_bytes s p (length x) (x ++ crlf []) q m e l)
    where
      go : Stands max_bytes s p (length x) (x ++ crlf []) q → Early (blob_begun s p) (length q)
      go (whole e c b g) = early-as (paths.blob-is s p _ c) (frame-early s e (e + length x) x q b refl g o)
      go (nothing c g) =
          lacks 5 (paths.blob-is s p _ c)
          (let k = count-pos (length x) in omega (arith, ap length g, length-append (digits (length x)) (crlf (x ++ crlf [])), length-append x (crlf [])))
      go (digits-all c g) = lacks (length x + 4) (paths.blob-is s p _ c) (omega (arith, length-append x (crlf [])))
      go (digits-some m a b c g) = lacks (m + 4) (paths.blob-is s p _ c) (omega (arith, length-append x (crlf [])))
      go (ended c g) = lacks (length x + 3) (paths.blob-is s p _ c) (omega (arith, length-append x (crlf [])))

  -- a blob string
  pub string-early : (x : Bytes) → length x ≤ max_bytes → framed x [] ≡ drop p s ++ q → Early (string_begun s p) (length q)
  string-early x m e =
      let z = blob-early x m e in
      by_test (leb (length s) p)
      (λ t.
      let i = leb-true (length s) p t in
      let five : ◌≡◌ {A = Result ℕ NotWhole} (Err (Lacks z.k)) (Err (Lacks 5)) = sym z.is ∙ paths.blob-is s p _ (paths.count-out max_bytes s p i) in
      let k : z.k ≡ 5 = cc in
      lacks 4 (nulls.string-out s p i) (omega (arith, z.least)))
      (λ t. early-as (nulls.string-in s p (leb-false (length s) p t)) z)

  -- ---- verbatim strings

  -- the fourth byte, where it stands there
  colon : (f xs : Bytes) (e : ℕ) → length f ≡ 3 → (f ++ (58 ∷ xs)) ++ crlf [] ≡ drop e s ++ q → e + 3 < length s → get_or s (e + 3) 0 ≡ 58
  colon f xs e k h i =
      let t : Bytes = drop e s in
      let a = length-drop e s in
      let z = cut f t q (58 ∷ (xs ++ crlf [])) (sym h ∙ append_assoc f (58 ∷ xs) (crlf [])) (omega arith) in
      head-is z.m z.front z.back (omega (arith, ap length z.front, length-append f z.m))
    where
      head-is : (m : Bytes) → drop e s ≡ f ++ m → 58 ∷ (xs ++ crlf []) ≡ m ++ q → 0 < length m → get_or s (e + 3) 0 ≡ 58
      head-is [] b c j = absurd (omega arith)
      head-is (y ∷ m) b c j =
          let u : y ≡ 58 = cc in
          let w : drop (e + length f) s ≡ y ∷ m = after s e f (y ∷ m) b in
          ap (λ (i : ℕ). get_or s (e + i) 0) (sym k) ∙ first s (e + length f) y m w ∙ u

  pub verbatim-early : (f xs : Bytes) → length f ≡ 3 → length (f ++ (58 ∷ xs)) ≤ max_bytes → framed (f ++ (58 ∷ xs)) [] ≡ drop p s ++ q
      → Early (verbatim_begun s p) (length q)
  verbatim-early f xs k m e = go (stands max_bytes s p (length x) (x ++ crlf []) q m e l)
    where
      x : Bytes
      x = f ++ (58 ∷ xs)

      four : 4 ≤ length x
      four = omega (arith, length-append f (58 ∷ xs))

      body : (e : ℕ) → e ≤ length s → x ++ crlf [] ≡ drop e s ++ q → Early (verbatim_body s (length x) e) (length q)
      body e b g =
          by_test (leb (length s) (e + 3))
          (λ t. early-as (paths.body-out s (length x) e four (leb-true (length s) (e + 3) t)) (frame-early s e (e + length x) x q b refl g o))
          (λ t.
          let i = leb-false (length s) (e + 3) t in
          early-as (paths.body-colon s (length x) e four i (colon f xs e k g i)) (frame-early s e (e + length x) x q b refl g o))

      some : (m : ℕ) → 0 < m → 10 * m ≤ length x → 3 + length (x ++ crlf []) ≤ length q → Early (verbatim_digits m) (length q)
      some m a b g =
          by_test (leb 4 m)
          (λ t. lacks (m + 4) (paths.digits-four m (leb-true 4 m t)) (omega (arith, length-append x (crlf []))))
          (λ t. lacks (10 * m + 5) (paths.digits-few m (leb-false 4 m t) (λ z. omega arith)) (omega (arith, length-append x (crlf []))))

      go : Stands max_bytes s p (length x) (x ++ crlf []) q → Early (verbatim_begun s p) (length q)
      go (whole e c b g) = early-as (paths.verbatim-is s p _ c) (body e b g)
      go (nothing c g) =
          lacks 9 (paths.verbatim-is s p _ c)
          (let k = count-pos (length x) in
          let h = four in omega (arith, ap length g, length-append (digits (length x)) (crlf (x ++ crlf [])), length-append x (crlf [])))
      go (digits-all c g) = lacks (length x + 4) (paths.verbatim-is s p _ c ∙ paths.digits-four (length x) four) (omega (arith, length-append x (crlf [])))
      go (digits-some m a b c g) = early-as (paths.verbatim-is s p _ c) (some m a b g)
      go (ended c g) = lacks (length x + 3) (paths.verbatim-is s p _ c ∙ paths.ended-four s (length x) four) (omega (arith, length-append x (crlf [])))

  -- ---- integers

  -- a number alone
  digits-early : (lim n : ℕ) → n ≤ lim → counted n [] ≡ drop p s ++ q → Early (digits_of (count_begun lim s p)) (length q)
  digits-early lim n m e = go (stands lim s p n [] q m e l)
    where
      go : Stands lim s p n [] q → Early (digits_of (count_begun lim s p)) (length q)
      go (whole e c b g) = absurd (omega (arith, ap length g, length-append (drop e s) q))
      go (nothing c g) = lacks 3 (ap digits_of c) (let k = count-pos n in omega (arith, ap length g, length-append (digits n) (crlf [])))
      go (digits-all c g) = lacks 2 (ap digits_of c) (omega arith)
      go (digits-some m a b c g) = lacks 2 (ap digits_of c) (omega arith)
      go (ended c g) = lacks 1 (ap digits_of c) (omega arith)

  minus-early : (lim n : ℕ) → 0 < n → n ≤ lim → counted n [] ≡ drop p s ++ q → Early (minus_of (count_begun lim s p)) (length q)
  minus-early lim n z m e = go (stands lim s p n [] q m e l)
    where
      go : Stands lim s p n [] q → Early (minus_of (count_begun lim s p)) (length q)
      go (whole e c b g) = absurd (omega (arith, ap length g, length-append (drop e s) q))
      go (nothing c g) = lacks 3 (ap minus_of c) (let k = count-pos n in omega (arith, ap length g, length-append (digits n) (crlf [])))
      go (digits-all c g) = lacks 2 (ap minus_of c ∙ paths.minus-digits n (λ y. omega arith)) (omega arith)
      go (digits-some m a b c g) = lacks 2 (ap minus_of c ∙ paths.minus-digits m (λ y. omega arith)) (omega arith)
      go (ended c g) = lacks 1 (ap minus_of c ∙ paths.minus-ended n (λ y. omega arith)) (omega arith)

  -- a digit is no minus
  pub no_minus : (n : ℕ) (r : Bytes) → counted n r ≡ drop p s ++ q → (get_or s p 0 ≡ 45) → ⊥
  no_minus n r e h =
      by_test (leb (length s) p)
      (λ t. let z = get_or-out s p (leb-true (length s) p t) in omega arith)
      (λ t.
      let i = leb-false (length s) p t in
      let a = length-drop p s in
      let b : get_or (drop p s ++ q) 0 0 ≡ get_or (drop p s) 0 0 = get_or-append (drop p s) q 0 0 (omega arith) in
      let c : get_or s p 0 ≡ get_or (counted n r) 0 0 = get_or-drop0 s p ∙ sym b ∙ ap (λ (z : Bytes). get_or z 0 0) (sym e) in
      let g = head-ge n (crlf r) in
      omega arith)

-- a first byte and CR LF behind it, or behind something
module _ (s : Bytes) (p : ℕ) (l : p ≤ length s) (q : Bytes) (o : 0 < length q) where
  pub integer-early : (z : ℤ) → Fits64 z → integer z ++ crlf [] ≡ drop p s ++ q → Early (integer_begun s p) (length q)
  integer-early (pos n) f e =
      early-as (paths.integer-plain s p _ (no_minus s p l q o n [] e) refl) (digits-early s p l q o 9223372036854775807 n (omega arith) e)
  integer-early (negsuc n) f e =
      open-byte s p 45 (counted (suc n) []) q e
      (λ i g. lacks 3 (paths.integer-out s p i) (let k = count-pos (suc n) in omega (arith, ap length g, length-append (digits (suc n)) (crlf []))))
      (λ i h g. early-as (paths.integer-minus s p _ h refl) (minus-early s (p + 1) (omega arith) q o 9223372036854775808 (suc n) (omega arith) (omega arith) g))

  pub crlf-early : crlf [] ≡ drop p s ++ q → Early (crlf_begun s p) (length q)
  crlf-early e = frame-early s p p [] q l (omega arith) e o

  pub boolean-early : (b : Bool) → cond b 116 102 ∷ crlf [] ≡ drop p s ++ q → Early (boolean_begun s p) (length q)
  boolean-early true e =
      open-byte s p 116 (crlf []) q e
      (λ i g. lacks 3 (paths.bool-out s p i) (omega (arith, ap length g)))
      (λ i h g. early-as (paths.bool-t s p i h) (frame-early s (p + 1) (p + 1) [] q (omega arith) (omega arith) g o))
  boolean-early false e =
      open-byte s p 102 (crlf []) q e
      (λ i g. lacks 3 (paths.bool-out s p i) (omega (arith, ap length g)))
      (λ i h g. early-as (paths.bool-f s p i h) (frame-early s (p + 1) (p + 1) [] q (omega arith) (omega arith) g o))

  -- the rest of a null of RESP2's
  pub one-early : 49 ∷ crlf [] ≡ drop p s ++ q → Early (one_begun s p) (length q)
  one-early e =
      open-byte s p 49 (crlf []) q e
      (λ i g. lacks 3 (nulls.one_out s p i) (omega (arith, ap length g)))
      (λ i h g. early-as (nulls.one-yes s p i h) (frame-early s (p + 1) (p + 1) [] q (omega arith) (omega arith) g o))
