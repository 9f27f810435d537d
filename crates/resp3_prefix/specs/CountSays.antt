-- What is read of a number is what stands there. Assumes nothing.
use Rattle.std.specs.Prelude.{◌≡◌, [], ◌∷◌, ◌++◌, ℕ, ◌+◌, ◌≤◌, ◌<◌, leb, eqb, length, get_or, drop, Some}
use Rattle.std.proofs.Common.{sym, ap, ◌∙◌, subst, append-nil, append_assoc, arith, length-append, length-drop, drop_of_length-le}
use Rattle.std.proofs.Math.ListN.{get_or-append}
use Rattle.std.proofs.lemmas.List.{drop-append-le, get_or_at}
use borrow.Author.Tests.{leb-true, leb-false, eqb-true, eqb-false}
use Rattle.buffer.specs.Cases.{by_test}
use Rattle.buffer.specs.Same.{Bytes}
use Rattle.decimal.specs.Digits.{digits}
use Rattle.decimal.specs.Read.{crlf_b, lead, val_acc, ended_def, fin_def, num_def}
use Rattle.decimal.specs.ReadLaws.{fin-within, num-zero, num-more, num-bounds, lead-within}
use Rattle.decimal.specs.NumSound.{num-sound}
use Rattle.resp3_prefix.specs.declared.Count.{Count}
use Rattle.resp3_prefix.specs.declared.Count.TheVariants.{Whole, Nothing, Digits, Ended, Never as NoCount}
use Rattle.resp3_prefix.specs.Begun.{count_end, count_begun}
use Rattle.resp3_prefix.specs.Split.{same-front}
use Rattle.resp3_prefix.specs.Counts.{Stops, stops-nil, stops-cr, stops-lf, lead-stops, value-stops}

-- what each answer says
abbrev pub CountIs : ℕ → Bytes → ℕ → Count → Type 0
CountIs lim s p (Whole n e) = num_def lim s p ≡ Some (n, e)
CountIs lim s p Nothing = length s ≤ p
CountIs lim s p (Digits m) = (m ≤ lim) × (drop p s ≡ digits m)
CountIs lim s p (Ended m) = (m ≤ lim) × (drop p s ≡ digits m ++ (13 ∷ []))
CountIs lim s p NoCount = Unit {0}

module _ (lim : ℕ) (s : Bytes) (p i v : ℕ) (o : p ≤ i) (j : i ≤ length s) (l : v ≤ lim)
    (reads : (w : Bytes) → Stops w → num_def lim (s ++ w) p ≡ fin_def lim (s ++ w) i v) where
  -- with a CR LF that w completes, the number is whole
  filled : (w : Bytes) → Stops w → get_or (s ++ w) i 0 ≡ 13 → get_or (s ++ w) (i + 1) 0 ≡ 10 → num_def lim (s ++ w) p ≡ Some (v, i + 2)
  unfolding ended_def crlf_b
  filled w k a b = reads w k ∙ fin-within lim (s ++ w) i v l ∙ rw (a, b)

  -- so what stands there and w are its digits and CR LF
  told : (w : Bytes) → Stops w → get_or (s ++ w) i 0 ≡ 13 → get_or (s ++ w) (i + 1) 0 ≡ 10 → length s + length w ≡ i + 2
      → drop p s ++ w ≡ digits v ++ (13 ∷ 10 ∷ [])
  told w k a b n =
      let z = (num-sound lim (s ++ w) p v (i + 2) (filled w k a b)).1 in
      let y : drop (i + 2) (s ++ w) ≡ [] = drop_of_length-le (s ++ w) {i = i + 2} (omega (arith, length-append s w)) in
      sym (drop-append-le p s w (omega arith)) ∙ z ∙ ap (λ (r : Bytes). digits v ++ (13 ∷ 10 ∷ r)) y

  at-digits : length s ≤ i → drop p s ≡ digits v
  at-digits h =
      let w : Bytes = 13 ∷ 10 ∷ [] in
      let n : length s + 1 ≡ i + 1 = omega arith in
      let a : get_or (s ++ w) i 0 ≡ 13 = get_or_at s 13 (10 ∷ []) 0 i (omega arith) in
      let b : get_or (s ++ w) (i + 1) 0 ≡ 10 =
      ap (λ (z : Bytes). get_or z (i + 1) 0) (sym (append_assoc s (13 ∷ []) (10 ∷ [])))
      ∙ get_or_at (s ++ (13 ∷ [])) 10 [] 0 (i + 1) (length-append s (13 ∷ []) ∙ n) in
      same-front (drop p s) (digits v) w (told w (stops-cr (10 ∷ [])) a b (omega arith))

  at_ended : i < length s → get_or s i 0 ≡ 13 → length s ≤ i + 1 → drop p s ≡ digits v ++ (13 ∷ [])
  at_ended h c g =
      let w : Bytes = 10 ∷ [] in
      let a : get_or (s ++ w) i 0 ≡ 13 = get_or-append s w 0 i h ∙ c in
      let b : get_or (s ++ w) (i + 1) 0 ≡ 10 = get_or_at s 10 [] 0 (i + 1) (omega arith) in
      same-front (drop p s) (digits v ++ (13 ∷ [])) w (told w (stops-lf []) a b (omega arith) ∙ sym (append_assoc (digits v) (13 ∷ []) w))

  at-whole : get_or s i 0 ≡ 13 → get_or s (i + 1) 0 ≡ 10 → num_def lim s p ≡ Some (v, i + 2)
  at-whole c g =
      let n = append-nil s in
      subst (λ (u : Bytes). num_def lim u p ≡ Some (v, i + 2)) n
      (filled [] stops-nil (ap (λ (u : Bytes). get_or u i 0) n ∙ c) (ap (λ (u : Bytes). get_or u (i + 1) 0) n ∙ g))

  end-says : CountIs lim s p (count_end s i v)
  unfolding count_end
  end-says =
      by_test (leb (length s) i)
      (λ t. rw t (l, at-digits (leb-true (length s) i t)))
      (λ t.
      let h = leb-false (length s) i t in
      by_test (eqb (get_or s i 0) 13)
      (λ c.
      let x = eqb-true (get_or s i 0) 13 c in
      by_test (leb (length s) (i + 1))
      (λ u. rw (t, c, u) (l, at_ended h x (leb-true (length s) (i + 1) u)))
      (λ u. by_test (eqb (get_or s (i + 1) 0) 10) (λ f. rw (t, c, u, f) (at-whole x (eqb-true (get_or s (i + 1) 0) 10 f))) (λ f. rw (t, c, u, f) tt)))
      (λ c. rw (t, c) tt))

-- a number that begins with 0, and one that does not, are read the same where something follows
zero-reads : (lim : ℕ) (s : Bytes) (p : ℕ) → p < length s → get_or s p 0 ≡ 48 → (w : Bytes) → num_def lim (s ++ w) p ≡ fin_def lim (s ++ w) (p + 1) 0
zero-reads lim s p h f w = num-zero lim (s ++ w) p (get_or-append s w 0 p h ∙ f)

more-reads : (lim : ℕ) (s : Bytes) (p : ℕ) → p < length s → ((get_or s p 0 ≡ 48) → ⊥) → ((lead (drop p s) ≡ 0) → ⊥) → (w : Bytes) → Stops w
    → num_def lim (s ++ w) p ≡ fin_def lim (s ++ w) (p + lead (drop p s)) (val_acc 0 (drop p s))
more-reads lim s p h f g w k =
    let d : drop p (s ++ w) ≡ drop p s ++ w = drop-append-le p s w (omega arith) in
    num-more lim (s ++ w) p (p + lead (drop p s)) (val_acc 0 (drop p s)) (λ q. f (sym (get_or-append s w 0 p h) ∙ q)) (omega arith)
    (ap (λ (t : Bytes). p + lead t) d ∙ ap (λ (n : ℕ). p + n) (lead-stops (drop p s) w k))
    (ap (val_acc 0) d ∙ value-stops 0 (drop p s) w k)

-- what is read of a number is what stands there
pub count-is : (lim : ℕ) (s : Bytes) (p : ℕ) → CountIs lim s p (count_begun lim s p)
unfolding count_begun
count-is lim s p =
    by_test (leb (length s) p)
    (λ t. rw t (leb-true (length s) p t))
    (λ t.
    let h = leb-false (length s) p t in
    by_test (eqb (get_or s p 0) 48)
    (λ c. rw (t, c) (end-says lim s p (p + 1) 0 (omega arith) (omega arith) (omega arith) (λ w k. zero-reads lim s p h (eqb-true (get_or s p 0) 48 c) w)))
    (λ c.
    by_test (eqb (lead (drop p s)) 0)
    (λ f. rw (t, c, f) tt)
    (λ f.
    let g = lead-within (drop p s) in
    by_test (leb (val_acc 0 (drop p s)) lim)
    (λ b. rw (t, c, f, b)
    (end-says lim s p (p + lead (drop p s)) (val_acc 0 (drop p s)) (omega arith) (omega (arith, length-drop p s)) (leb-true (val_acc 0 (drop p s)) lim b)
    (λ w k. more-reads lim s p h (eqb-false (get_or s p 0) 48 c) (eqb-false (lead (drop p s)) 0 f) w k)))
    (λ b. rw (t, c, f, b) tt))))

-- the same of an answer that is known
pub count-says : (lim : ℕ) (s : Bytes) (p : ℕ) (c : Count) → count_begun lim s p ≡ c → CountIs lim s p c
count-says lim s p c e = subst (CountIs lim s p) e (count-is lim s p)

-- a whole number is within the limit, and ends in the bytes
pub whole-bounds : (lim : ℕ) (s : Bytes) (p n e : ℕ) → count_begun lim s p ≡ Whole n e → (n ≤ lim) × (e ≤ length s)
whole-bounds lim s p n e h = num-bounds lim s p n e (count-says lim s p (Whole n e) h)
