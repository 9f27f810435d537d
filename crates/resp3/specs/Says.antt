-- What is read behind a first byte was written: lengths, lines, blobs, integers. Assumes nothing.
use Rattle.std.specs.Prelude.{◌≡◌, refl, Bool, true, false, cond, [], ◌∷◌, ◌++◌, ℕ, zero, suc, ◌+◌, ◌≤◌, eqb, leb, length, get_or, take}
use Rattle.std.specs.Prelude.{drop, ℤ, pos, negsuc, Option, Some, None}
use Rattle.std.proofs.Common.{sym, ap, ◌∙◌, arith, length-take, length-drop, take-append-drop, drop-drop, get_or-drop, get_or-take, length-take-le, ne_eqb, eqb-true, leb-true}
use Rattle.std.proofs.Math.Seq.{split_at}
use Rattle.buffer.specs.Same.{Bytes}
use Rattle.buffer.specs.Cases.{by_test}
use Rattle.decimal.specs.Read.{crlf_b, num_def}
use Rattle.decimal.specs.ReadLaws.{crlf-in}
use Rattle.buffer.specs.Places.{inside, step}
use Rattle.decimal.specs.NumSound.{crlf-sound, num-sound}
use Rattle.resp3.specs.Value.{plain_b, one_line, Fits64, crlf, counted, framed, integer}
use Rattle.resp3.specs.Ends.{num_then, length_at, crlf_end, plain, line_end, blob_end, verbatim_end, number_end, boolean_end, one_end}

-- no end is an end
pub not-bad : (e : ℕ) → None ≡ Some e → ⊥
not-bad e h = let z : ◌≡◌ {A = ℕ} 0 1 = cc in omega arith

-- an end is at one place
pub at_same : (a b : ℕ) → Some a ≡ Some b → a ≡ b
at_same a b h = cc

-- ---- what stands behind a first byte

-- CR LF stood at p
pub crlf-says : (s : Bytes) (p e : ℕ) → crlf_end s p ≡ Some e → (p + 2 ≤ length s) × (drop p s ≡ crlf (drop e s))
unfolding crlf_end
crlf-says s p e h =
    by_test (crlf_b s p)
    (λ c. let i = crlf-in s p c in let j = at_same (p + 2) e (rw c at h) in (omega arith, rw (← j) (crlf-sound s p c)))
    (λ c. absurd (not-bad e (rw c at h)))

-- n bytes from p on
part : (s : Bytes) (p n : ℕ) → drop p s ≡ take n (drop p s) ++ drop (p + n) s
part s p n = sym (take-append-drop n (drop p s)) ∙ rw (drop-drop n p s)

-- they are n
part_length : (s : Bytes) (p n : ℕ) → p + n ≤ length s → length (take n (drop p s)) ≡ n
part_length s p n h = simp (length-take, length-drop) (omega arith)

-- a number was read at p, and then f went on
pub record NumSays (x : Option (ℕ × ℕ)) (f : ℕ → ℕ → Option ℕ) (e : ℕ) : Type 0 where
  pub n : ℕ
  pub q : ℕ
  pub is : x ≡ Some (n, q)
  pub then : f n q ≡ Some e

-- what ended had a number
pub num-then : (x : Option (ℕ × ℕ)) (f : ℕ → ℕ → Option ℕ) (e : ℕ) → num_then x f ≡ Some e → NumSays x f e
num-then (Some (n, q)) f e h = record { n = n; q = q; is = refl; then = h }
num-then None f e h = absurd (not-bad e h)

-- and it stood there
pub length-says : (s : Bytes) (p n q : ℕ) → length_at s p ≡ Some (n, q) → drop p s ≡ counted n (drop q s)
unfolding length_at
length-says s p n q h = (num-sound (length s) s p n q h).1

-- the bytes of a blob
pub record BlobSays (s : Bytes) (p e : ℕ) : Type 0 where
  pub xs : Bytes
  pub is : drop p s ≡ framed xs (drop e s)

-- bytes behind the length n
blob-of : (s : Bytes) (p n q e : ℕ) → length_at s p ≡ Some (n, q) → crlf_end s (q + n) ≡ Some e → drop p s ≡ framed (take n (drop q s)) (drop e s)
blob-of s p n q e i h =
    let c = crlf-says s (q + n) e h in
    length-says s p n q i
    ∙ rw (part_length s q n (omega arith)) (ap (λ (z : Bytes). counted n z) (part s q n ∙ ap (λ (z : Bytes). take n (drop q s) ++ z) c.1))

-- a blob is bytes behind their length
pub blob-says : (s : Bytes) (p e : ℕ) → blob_end s p ≡ Some e → BlobSays s p e
unfolding blob_end
blob-says s p e h =
    let z = num-then (length_at s p) (λ n q. crlf_end s (q + n)) e h in
    record { xs = take z.n (drop z.q s); is = blob-of s p z.n z.q e z.is z.then }

-- plain bytes are a line's body
plain-take : (l : Bytes) → one_line (take (plain l) l) ≡ true
unfolding plain one_line
plain-take [] = refl
plain-take (x ∷ l) = go (plain_b x) refl (plain-take l)
  where
    go : (b : Bool) → plain_b x ≡ b → one_line (take (plain l) l) ≡ true → one_line (take (plain (x ∷ l)) (x ∷ l)) ≡ true
    go true e ih = rw (e, plain) (rw (e, one_line) ih)
    go false e ih = rw (e, plain)

-- the body of a line
pub record LineSays (s : Bytes) (p e : ℕ) : Type 0 where
  pub xs : Bytes
  pub ok : one_line xs ≡ true
  pub is : drop p s ≡ xs ++ crlf (drop e s)

-- a line is its body
pub line-says : (s : Bytes) (p e : ℕ) → line_end s p ≡ Some e → LineSays s p e
unfolding line_end
line-says s p e h =
    let c = crlf-says s (p + plain (drop p s)) e h in
    record {
      xs = take (plain (drop p s)) (drop p s);
      ok = plain-take (drop p s);
      is = part s p (plain (drop p s)) ∙ ap (λ (z : Bytes). take (plain (drop p s)) (drop p s) ++ z) c.1;
    }

-- a format of three bytes, a colon, a text
pub record VerbatimSays (s : Bytes) (p e : ℕ) : Type 0 where
  pub f : Bytes
  pub xs : Bytes
  pub three : length f ≡ 3
  pub is : drop p s ≡ framed (f ++ (58 ∷ xs)) (drop e s)

-- bytes around a colon that is their fourth
colon-splits : (b : Bytes) → 4 ≤ length b → get_or b 3 0 ≡ 58 → b ≡ take 3 b ++ (58 ∷ drop 4 b)
colon-splits b l h = split_at b 3 0 (omega arith) ∙ rw h

-- a verbatim string is a format, a colon, a text
pub verbatim-says : (s : Bytes) (p e : ℕ) → verbatim_end s p ≡ Some e → VerbatimSays s p e
unfolding verbatim_end
verbatim-says s p e h =
    let z = num-then (length_at s p) (λ n q. cond (leb 4 n) (cond (eqb (get_or s (q + 3) 0) 58) (crlf_end s (q + n)) None) None) e h in
    go z.n z.q (leb 4 z.n) (eqb (get_or s (z.q + 3) 0) 58) refl refl z.is z.then
  where
    go : (n q : ℕ) (a b : Bool) → leb 4 n ≡ a → eqb (get_or s (q + 3) 0) 58 ≡ b → length_at s p ≡ Some (n, q)
        → cond a (cond b (crlf_end s (q + n)) None) None ≡ Some e → VerbatimSays s p e
    go n q true true f g i k =
        let four = leb-true 4 n f in
        let c = crlf-says s (q + n) e k in
        let l = part_length s q n (omega arith) in
        let b : Bytes = take n (drop q s) in
        let colon : get_or b 3 0 ≡ 58 = get_or-take n (drop q s) 3 0 (omega arith) ∙ get_or-drop q s 3 0 ∙ eqb-true (get_or s (q + 3) 0) 58 g in
        let split = colon-splits b (omega arith) colon in
        record {
          f = take 3 b;
          xs = drop 4 b;
          three = length-take-le 3 b (omega arith);
          is = blob-of s p n q e i k ∙ ap (λ (z : Bytes). framed z (drop e s)) split;
        }
    go n q true false f g i k = absurd (not-bad e k)
    go n q false b f g i k = absurd (not-bad e k)

-- an integer that fits
pub record NumberSays (s : Bytes) (p e : ℕ) : Type 0 where
  pub z : ℤ
  pub ok : Fits64 z
  pub is : drop p s ≡ integer z ++ crlf (drop e s)

-- behind a minus
minus-says : (s : Bytes) (p n q e : ℕ) → get_or s p 0 ≡ 45 → num_def 9223372036854775808 s (p + 1) ≡ Some (n, q)
    → cond (eqb n 0) None (Some q) ≡ Some e → NumberSays s p e
minus-says s p zero q e m i k = absurd (not-bad e k)
minus-says s p (suc n) q e m i k =
    let d = num-sound 9223372036854775808 s (p + 1) (suc n) q i in
    let j = at_same q e (rw (ne_eqb (suc n) 0 (λ z. omega arith)) at k) in
    record { z = negsuc n; ok = omega arith; is = step s p (inside s p (omega arith)) ∙ rw (m, ← j) (ap (λ (y : Bytes). 45 ∷ y) d.1) }

-- without one
plus-says : (s : Bytes) (p n q e : ℕ) → num_def 9223372036854775807 s p ≡ Some (n, q) → q ≡ e → NumberSays s p e
plus-says s p n q e i j =
    let d = num-sound 9223372036854775807 s p n q i in
    record { z = pos n; ok = omega arith; is = rw (← j) d.1 }

-- an integer is one that fits
pub number-says : (s : Bytes) (p e : ℕ) → number_end s p ≡ Some e → NumberSays s p e
unfolding number_end
number-says s p e h =
    by_test (eqb (get_or s p 0) 45)
    (λ m.
    let z = num-then (num_def 9223372036854775808 s (p + 1)) (λ n q. cond (eqb n 0) None (Some q)) e (rw m at h) in
    minus-says s p z.n z.q e (eqb-true (get_or s p 0) 45 m) z.is z.then)
    (λ m.
    let z = num-then (num_def 9223372036854775807 s p) (λ n q. Some q) e (rw m at h) in
    plus-says s p z.n z.q e z.is (at_same z.q e z.then))

-- t or f
pub record FlagSays (s : Bytes) (p e : ℕ) : Type 0 where
  pub b : Bool
  pub is : drop p s ≡ cond b 116 102 ∷ crlf (drop e s)

-- a boolean is t or f
pub flag-says : (s : Bytes) (p e : ℕ) → boolean_end s p ≡ Some e → FlagSays s p e
unfolding boolean_end
flag-says s p e h = go (eqb (get_or s p 0) 116) (eqb (get_or s p 0) 102) refl refl h
  where
    go : (a b : Bool) → eqb (get_or s p 0) 116 ≡ a → eqb (get_or s p 0) 102 ≡ b → cond a (crlf_end s (p + 1)) (cond b (crlf_end s (p + 1)) None) ≡ Some e
        → FlagSays s p e
    go true b f g k =
        let m = eqb-true (get_or s p 0) 116 f in
        record { b = true; is = step s p (inside s p (omega arith)) ∙ rw (m, (crlf-says s (p + 1) e k).1) }
    go false true f g k =
        let m = eqb-true (get_or s p 0) 102 g in
        record { b = false; is = step s p (inside s p (omega arith)) ∙ rw (m, (crlf-says s (p + 1) e k).1) }
    go false false f g k = absurd (not-bad e k)

-- the rest of a null of RESP2's, behind its minus, is 1 and CR LF
pub one-says : (s : Bytes) (p e : ℕ) → one_end s p ≡ Some e → drop p s ≡ 49 ∷ crlf (drop e s)
unfolding one_end
one-says s p e h =
    by_test (eqb (get_or s p 0) 49)
    (λ t. let m = eqb-true (get_or s p 0) 49 t in step s p (inside s p (omega arith)) ∙ rw (m, (crlf-says s (p + 1) e (rw t at h)).1))
    (λ t. absurd (not-bad e (rw t at h)))
