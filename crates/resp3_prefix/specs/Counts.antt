-- Numbers of which a beginning stands in the bytes: what is read of them, in both directions. Assumes nothing.
use Rattle.std.specs.Prelude.{◌≡◌, refl, [], ◌∷◌, ◌++◌, ℕ, zero, suc, ◌+◌, ◌*◌, ◌-◌, ◌/◌, ◌%◌, ◌≤◌, ◌<◌, leb, eqb, length, get_or, drop}
use Rattle.std.proofs.Common.{sym, ap, ◌∙◌, append-nil, arith, length-append, length-drop, leb-true, leb-false, eqb-true}
use Rattle.std.proofs.lemmas.Bool.{eqb-false}
use Rattle.buffer.specs.Cases.{by_test}
use Rattle.buffer.specs.Same.{Bytes}
use Rattle.buffer.specs.Places.{inside, first, after, get_or-drop0}
use Rattle.decimal.specs.Digits.{digits}
use Rattle.decimal.specs.DigitLaws.{digits-one, digits_more, digits-cases, count-pos}
use Rattle.decimal.specs.Read.{digit_b, lead, val_acc}
use Rattle.decimal.specs.ReadLaws.{num-says}
use Rattle.decimal.specs.NumLaw.{num-law}
use Rattle.resp3.specs.Value.{counted}
use Rattle.resp3_prefix.specs.declared.Count.TheVariants.{Whole, Nothing, Digits, Ended}
use Rattle.resp3_prefix.specs.Begun.{count_end, count_begun}
use Rattle.resp3_prefix.specs.Paths as paths
use Rattle.resp3_prefix.specs.Split.{cut, none_left}

-- ---- digits before something that begins with none

-- it adds no digit and leaves the value
pub record Stops (w : Bytes) : Type 0 where
  pub none : lead w ≡ 0
  pub value : (b : ℕ) → val_acc b w ≡ b

-- nothing, or a CR or LF
pub stops-nil : Stops []
stops-nil = record { none = refl; value = λ b. refl }

pub stops-cr : (r : Bytes) → Stops (13 ∷ r)
stops-cr r = record { none = refl; value = λ b. refl }

pub stops-lf : (r : Bytes) → Stops (10 ∷ r)
stops-lf r = record { none = refl; value = λ b. refl }

pub lead-stops : (t w : Bytes) → Stops w → lead (t ++ w) ≡ lead t
lead-stops [] w h = h.none
lead-stops (x ∷ t) w h = by_test (digit_b x) (λ e. rw e (ap suc (lead-stops t w h))) (λ e. rw e)

pub value-stops : (b : ℕ) (t w : Bytes) → Stops w → val_acc b (t ++ w) ≡ val_acc b t
value-stops b [] w h = h.value b
value-stops b (x ∷ t) w h = by_test (digit_b x) (λ e. rw e (value-stops (b * 10 + (x - 48)) t w h)) (λ e. rw e)

-- the first byte is that of the digits
first-same : (x z w : Bytes) → 0 < length x → get_or (x ++ z) 0 0 ≡ get_or (x ++ w) 0 0
first-same [] z w h = absurd (omega arith)
first-same (a ∷ x) z w h = refl

-- the digits of a number above 0, before something that begins with none
record Leads (m : ℕ) (z : Bytes) : Type 0 where
  not-zero : (get_or (digits m ++ z) 0 0 ≡ 48) → ⊥
  long : lead (digits m ++ z) ≡ length (digits m)
  value : val_acc 0 (digits m ++ z) ≡ m

digits-lead : (m : ℕ) (z : Bytes) → 0 < m → Stops z → Leads m z
digits-lead m z h k =
    let w : Bytes = 13 ∷ 10 ∷ [] in
    let t : Bytes = digits m ++ w in
    let a : lead t ≡ lead (digits m ++ z) = lead-stops (digits m) w (stops-cr (10 ∷ [])) ∙ sym (lead-stops (digits m) z k) in
    let b : val_acc 0 t ≡ val_acc 0 (digits m ++ z) = value-stops 0 (digits m) w (stops-cr (10 ∷ [])) ∙ sym (value-stops 0 (digits m) z k) in
    num-says m t 0 m (0 + length (digits m) + 2) (num-law m t 0 m [] (omega arith) refl)
    (λ y f. absurd (let v = f.value in omega arith))
    (λ y l f.
    let v = f.ended in
    record {
      not-zero = λ q. y (first-same (digits m) w z (count-pos m) ∙ q);
      long = omega arith;
      value = sym b ∙ f.value;
    })

-- ---- what is written is read, as far as it stands there

-- a number's digits before something that begins with none
pub count-here : (lim : ℕ) (s : Bytes) (p m : ℕ) (z : Bytes) → m ≤ lim → drop p s ≡ digits m ++ z → Stops z
    → count_begun lim s p ≡ count_end s (p + length (digits m)) m
count-here lim s p zero z l e k =
    let d = digits-one 0 (omega arith) in
    let f : get_or s p 0 ≡ 48 = first s p 48 z (e ∙ ap (λ (x : Bytes). x ++ z) d) in
    paths.count-zero lim s p (inside s p (omega arith)) f ∙ ap (λ (x : Bytes). count_end s (p + length x) 0) (sym d)
count-here lim s p (suc n) z l e k =
    let m : ℕ = suc n in
    let g = digits-lead m z (omega arith) k in
    let c = count-pos m in
    let i : p < length s = omega (arith, length-drop p s, ap length e, length-append (digits m) z) in
    let f : (get_or s p 0 ≡ 48) → ⊥ = λ q. g.not-zero (sym (get_or-drop0 s p ∙ ap (λ (x : Bytes). get_or x 0 0) e) ∙ q) in
    let a : lead (drop p s) ≡ length (digits m) = ap lead e ∙ g.long in
    paths.count-more lim s p (p + length (digits m)) m i f (omega arith) (ap (λ (x : ℕ). p + x) a) (ap (val_acc 0) e ∙ g.value) l

-- the CR LF behind it, as far as it stands there
end-ended : (s : Bytes) (i v : ℕ) → drop i s ≡ 13 ∷ [] → count_end s i v ≡ Ended v
end-ended s i v e =
    let n : length s ≡ i + 1 = omega (arith, ap length e, length-drop i s) in
    paths.end-cr s i v (omega arith) (first s i 13 [] e) (omega arith)

end_whole : (s : Bytes) (i v : ℕ) (r : Bytes) → drop i s ≡ 13 ∷ 10 ∷ r → count_end s i v ≡ Whole v (i + 2)
end_whole s i v r e =
    let g = first s (i + 1) 10 r (after s i (13 ∷ []) (10 ∷ r) e) in
    let j = inside s (i + 1) (omega arith) in
    paths.end-both s i v (omega arith) (first s i 13 (10 ∷ r) e) j g

-- a whole number
pub whole_here : (lim : ℕ) (s : Bytes) (p n : ℕ) (r : Bytes) → n ≤ lim → drop p s ≡ counted n r → count_begun lim s p ≡ Whole n (p + length (digits n) + 2)
whole_here lim s p n r l e =
    count-here lim s p n (13 ∷ 10 ∷ r) l e (stops-cr (10 ∷ r)) ∙ end_whole s (p + length (digits n)) n r (after s p (digits n) (13 ∷ 10 ∷ r) e)

-- ---- a beginning of a number

-- the first digits of a number are those of a number: all of them, or of one that is at most a tenth of it
pub data Part (n : ℕ) (t m : Bytes) : Type 0 where
  all : t ≡ digits n → m ≡ [] → Part n t m
  some : (k : ℕ) → t ≡ digits k → 0 < k → 10 * k ≤ n → 0 < length m → Part n t m

one_left : (a : ℕ) (t m : Bytes) → a ∷ [] ≡ t ++ m → 0 < length t → (t ≡ a ∷ []) × (m ≡ [])
one_left a [] m e h = absurd (omega arith)
one_left a (b ∷ []) [] e h = (let k : b ≡ a = cc in ap (λ (x : ℕ). x ∷ []) k, refl)
one_left a (b ∷ []) (c ∷ m) e h = absurd (omega (arith, ap length e))
one_left a (b ∷ c ∷ t) m e h = absurd (omega (arith, ap length e))

pub digits-part : (n : ℕ) (t m : Bytes) → digits n ≡ t ++ m → 0 < length t → Part n t m
digits-part =
    digits-cases (λ n. (t m : Bytes) → digits n ≡ t ++ m → 0 < length t → Part n t m)
    (λ n h t m e l. let z = one_left (48 + n) t m (sym (digits-one n h) ∙ e) l in all (z.0 ∙ sym (digits-one n h)) z.1)
    (λ n h ih t m e l. go n h ih t m e l)
  where
    deeper : (n : ℕ) (t m m' : Bytes) → 10 ≤ n → m ≡ m' ++ ((48 + n % 10) ∷ []) → Part (n / 10) t m' → Part n t m
    deeper n t m m' h e (all i j) = some (n / 10) i (omega arith) (omega arith) (omega (arith, ap length e, length-append m' ((48 + n % 10) ∷ [])))
    deeper n t m m' h e (some k i a b c) = some k i a (omega arith) (omega (arith, ap length e, length-append m' ((48 + n % 10) ∷ [])))

    go : (n : ℕ) → 10 ≤ n → ((t m : Bytes) → digits (n / 10) ≡ t ++ m → 0 < length t → Part (n / 10) t m) → (t m : Bytes) → digits n ≡ t ++ m
        → 0 < length t → Part n t m
    go n h ih t m e l =
        let D : Bytes = digits (n / 10) in
        let last : Bytes = (48 + n % 10) ∷ [] in
        let q : D ++ last ≡ t ++ m = sym (digits_more n h) ∙ e in
        by_test (leb (length t) (length D))
        (λ b. let z = cut t D last m q (leb-true (length t) (length D) b) in deeper n t m z.m h z.back (ih t z.m z.front l))
        (λ b.
        let g = leb-false (length t) (length D) b in
        let y = none_left m (omega (arith, ap length q, length-append D last, length-append t m)) in
        all (sym (append-nil t) ∙ ap (λ (x : Bytes). t ++ x) (sym y) ∙ sym e) y)

-- how far a number n and what follows it, r, stand at p, where q is what is lacking of them
pub data Stands (lim : ℕ) (s : Bytes) (p n : ℕ) (r q : Bytes) : Type 0 where
  whole : (e : ℕ) → count_begun lim s p ≡ Whole n e → e ≤ length s → r ≡ drop e s ++ q → Stands lim s p n r q
  nothing : count_begun lim s p ≡ Nothing → q ≡ counted n r → Stands lim s p n r q
  digits-all : count_begun lim s p ≡ Digits n → length q ≡ 2 + length r → Stands lim s p n r q
  digits-some : (m : ℕ) → 0 < m → 10 * m ≤ n → count_begun lim s p ≡ Digits m → 3 + length r ≤ length q → Stands lim s p n r q
  ended : count_begun lim s p ≡ Ended n → length q ≡ 1 + length r → Stands lim s p n r q

module _ (lim : ℕ) (s : Bytes) (p n : ℕ) (r q : Bytes) (l : n ≤ lim) (e : counted n r ≡ drop p s ++ q) where
  -- the bytes end before the digits do, or with them
  in-digits : (m : Bytes) → digits n ≡ drop p s ++ m → q ≡ m ++ (13 ∷ 10 ∷ r) → 0 < length (drop p s) → Part n (drop p s) m → Stands lim s p n r q
  in-digits m f b h (all i j) =
      let c : length s ≤ p + length (digits n) = omega (arith, length-drop p s, ap length i) in
      digits-all
      (count-here lim s p n [] l (i ∙ sym (append-nil (digits n))) stops-nil ∙ paths.end-out s (p + length (digits n)) n c)
      (let k : length q ≡ length (13 ∷ 10 ∷ r) = ap length (b ∙ ap (λ (x : Bytes). x ++ (13 ∷ 10 ∷ r)) j) in omega arith)
  in-digits m f b h (some k i a g c) =
      let y : length s ≤ p + length (digits k) = omega (arith, length-drop p s, ap length i) in
      digits-some k a g
      (count-here lim s p k [] (omega arith) (i ∙ sym (append-nil (digits k))) stops-nil ∙ paths.end-out s (p + length (digits k)) k y)
      (omega (arith, ap length b, length-append m (13 ∷ 10 ∷ r)))

  -- they end behind the digits
  behind-digits : (m : Bytes) → drop p s ≡ digits n ++ m → 13 ∷ 10 ∷ r ≡ m ++ q → 0 < length m → Stands lim s p n r q
  behind-digits [] f b h = absurd (omega arith)
  behind-digits (x ∷ []) f b h =
      let i : x ≡ 13 = cc in
      let g : drop p s ≡ digits n ++ (13 ∷ []) = f ∙ ap (λ (y : ℕ). digits n ++ (y ∷ [])) i in
      ended
      (count-here lim s p n (13 ∷ []) l g (stops-cr []) ∙ end-ended s (p + length (digits n)) n (after s p (digits n) (13 ∷ []) g))
      (let j : 10 ∷ r ≡ q = cc in omega (arith, ap length j))
  behind-digits (x ∷ y ∷ m) f b h =
      let i : x ≡ 13 = cc in
      let j : y ≡ 10 = cc in
      let k : r ≡ m ++ q = cc in
      let g : drop p s ≡ counted n m = f ∙ rw (i, j) in
      let w = whole_here lim s p n m l g in
      let d : drop (p + length (digits n) + 2) s ≡ m = after s (p + length (digits n)) (13 ∷ 10 ∷ []) m (after s p (digits n) (13 ∷ 10 ∷ m) g) in
      whole (p + length (digits n) + 2) w
      (omega (arith, length-drop p s, ap length g, length-append (digits n) (13 ∷ 10 ∷ m)))
      (k ∙ ap (λ (z : Bytes). z ++ q) (sym d))

  pub stands : p ≤ length s → Stands lim s p n r q
  stands h =
      let t : Bytes = drop p s in
      by_test (leb (length t) (length (digits n)))
      (λ b.
      let z = cut t (digits n) (13 ∷ 10 ∷ r) q e (leb-true (length t) (length (digits n)) b) in
      by_test (eqb (length t) 0)
      (λ y.
      let k = eqb-true (length t) 0 y in
      nothing (paths.count-out lim s p (omega (arith, length-drop p s))) (let g : t ≡ [] = none_left t k in ap (λ (x : Bytes). x ++ q) (sym g) ∙ sym e))
      (λ y.
      let k = eqb-false (length t) 0 y in
      let o : 0 < length t = omega arith in
      in-digits z.m z.front z.back o (digits-part n t z.m z.front o)))
      (λ b.
      let g = leb-false (length t) (length (digits n)) b in
      let z = cut (digits n) t q (13 ∷ 10 ∷ r) (sym e) (omega arith) in
      behind-digits z.m z.front z.back (omega (arith, ap length z.front, length-append (digits n) z.m)))
