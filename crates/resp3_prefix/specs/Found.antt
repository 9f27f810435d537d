-- Bytes that lack k begin the bytes of something valid, which is exactly k longer: values with none inside. Assumes nothing.
use Rattle.std.specs.Prelude.{◌≡◌, Bool, true, false, cond, leb, eqb, get_or, ℤ, pos, negsuc, Ok, Err, Result}
use Rattle.std.proofs.Math.Path.{refl, sym, ap}
use Rattle.std.proofs.Common.{◌∙◌, drop-drop, take_all}
use mathlib.Core.List.{[], ◌∷◌, ◌++◌, append_assoc}
use Prim.Native.Nat.{ℕ, suc, ◌+◌, ◌-◌, ◌≤◌, ◌<◌}
use native.Mathlib.Omega.{arith}
use Rattle.std.proofs.Math.ListN.{length, take, drop, replicate, length-append, length-drop, length-replicate, take-append-drop, drop_of_length-le}
use borrow.Author.Tests.{leb-true, leb-false, eqb-true, eqb-false}
use Rattle.buffer.specs.Cases.{by_test}
use Rattle.buffer.specs.Same.{Bytes}
use Rattle.buffer.specs.Places.{inside, step}
use Rattle.config.specs.Limits.{max_bytes}
use Rattle.decimal.specs.Digits.{digits}
use Rattle.decimal.specs.NumSound.{num-sound}
use Rattle.resp3.specs.Value.{crlf, counted, framed, integer, one_line, Fits64}
use Rattle.resp3.specs.Ends.{plain}
use Rattle.resp3_prefix.specs.declared.NotWhole.{NotWhole}
use Rattle.resp3_prefix.specs.declared.NotWhole.TheVariants.{Lacks, Never}
use Rattle.resp3_prefix.specs.declared.Count.{Count}
use Rattle.resp3_prefix.specs.declared.Count.TheVariants.{Whole, Nothing, Digits, Ended, Never as NoCount}
use Rattle.resp3_prefix.specs.Begun.{crlf_begun, count_begun, line_begun, blob_of, blob_begun, digits_of, minus_of, integer_begun, boolean_begun}
use Rattle.resp3_prefix.specs.Split.{none_left}
use Rattle.resp3_prefix.specs.CountSays.{count-says, whole-bounds}
use Rattle.resp3_prefix.specs.Pieces.{crlf-lacks, frame_found, plain-line, plain-within}

-- the bytes b begin with what stands at p, and are k longer
pub record Rest (b s : Bytes) (p k : ℕ) : Type 0 where
  pub q : Bytes
  pub is : b ≡ drop p s ++ q
  pub long : length q ≡ k

pub lacks-same : (a b : ℕ) → ◌≡◌ {A = Result ℕ NotWhole} (Err (Lacks a)) (Err (Lacks b)) → a ≡ b
lacks-same a b h = cc

pub never-lacks : (k : ℕ) → ◌≡◌ {A = Result ℕ NotWhole} (Err Never) (Err (Lacks k)) → ⊥
never-lacks k h = let z : ◌≡◌ {A = ℕ} 0 1 = cc in omega arith

pub ends-lacks : (e k : ℕ) → ◌≡◌ {A = Result ℕ NotWhole} (Ok e) (Err (Lacks k)) → ⊥
ends-lacks e k h = let z : ◌≡◌ {A = ℕ} 0 1 = cc in omega arith

-- ---- a number, and what follows it

module _ (s : Bytes) (p : ℕ) where
  -- nothing of them stands there
  pub fill-nothing : (n : ℕ) (r : Bytes) → length s ≤ p → counted n r ≡ drop p s ++ counted n r
  fill-nothing n r l = ap (λ (x : Bytes). x ++ counted n r) (sym (drop_of_length-le s {i = p} l))

  -- the digits
  pub fill-digits : (n m : ℕ) (r : Bytes) → n ≡ m → drop p s ≡ digits m → counted n r ≡ drop p s ++ crlf r
  fill-digits n m r l e = ap (λ (x : Bytes). x ++ crlf r) (ap digits l ∙ sym e)

  -- the digits and CR
  pub fill-ended : (n m : ℕ) (r : Bytes) → n ≡ m → drop p s ≡ digits m ++ (13 ∷ []) → counted n r ≡ drop p s ++ (10 ∷ r)
  fill-ended n m r l e = sym (append_assoc (digits n) (13 ∷ []) (10 ∷ r)) ∙ ap (λ (x : Bytes). x ++ (10 ∷ r)) (ap (λ (i : ℕ). digits i ++ (13 ∷ [])) l ∙ sym e)

  -- all of the number
  pub fill-whole : (n m e : ℕ) (q r : Bytes) → n ≡ m → drop p s ≡ counted m (drop e s) → r ≡ drop e s ++ q → counted n r ≡ drop p s ++ q
  fill-whole n m e q r l h g =
      ap (counted n) g
      ∙ sym (append_assoc (digits n) (crlf (drop e s)) q)
      ∙ ap (λ (x : Bytes). x ++ q) (ap (λ (i : ℕ). counted i (drop e s)) l ∙ sym h)

  -- what stands behind a number that is whole
  pub behind : (lim n e : ℕ) → count_begun lim s p ≡ Whole n e → drop p s ≡ counted n (drop e s)
  behind lim n e h = (num-sound lim s p n e (count-says lim s p (Whole n e) h)).1

  -- ---- blobs and lines

  pub crlf-found : (k : ℕ) → p ≤ length s → crlf_begun s p ≡ Err (Lacks k) → Rest (crlf []) s p k
  crlf-found k l h =
      let f = frame_found s p p k l (omega arith) h in
      let x = none_left f.x (omega (arith, f.ends)) in
      record { q = f.q; is = ap (λ (y : Bytes). y ++ crlf []) (sym x) ∙ f.is; long = f.long }

  pub line-found : (k : ℕ) → p ≤ length s → line_begun s p ≡ Err (Lacks k) → (x : Bytes) × (one_line x ≡ true) × Rest (x ++ crlf []) s p k
  unfolding line_begun
  line-found k l h =
      let t : Bytes = drop p s in
      let i : ℕ = p + plain t in
      let a = plain-within t in
      let b = length-drop p s in
      crlf-lacks s i k h
      (λ m n. (t, ap one_line (sym (take_all (plain t) t (omega arith))) ∙ plain-line t, record { q = crlf []; is = refl; long = omega arith }))
      (λ m d n.
      let x : Bytes = take (plain t) t in
      let g : x ++ (13 ∷ []) ≡ t = ap (λ (y : Bytes). x ++ y) (sym (drop-drop (plain t) p s ∙ d)) ∙ take-append-drop (plain t) t in
      (x, plain-line t, record { q = 10 ∷ []; is = sym (append_assoc x (13 ∷ []) (10 ∷ [])) ∙ ap (λ (y : Bytes). y ++ (10 ∷ [])) g; long = n }))

  pub blob-found : (k : ℕ) → blob_begun s p ≡ Err (Lacks k) → (x : Bytes) × Rest (framed x []) s p k
  unfolding blob_begun digits
  blob-found k h = go (count_begun max_bytes s p) refl h
    where
      go : (c : Count) → count_begun max_bytes s p ≡ c → blob_of s c ≡ Err (Lacks k) → (x : Bytes) × Rest (framed x []) s p k
      go (Whole n e) c h =
          let b = whole-bounds max_bytes s p n e c in
          let f = frame_found s e (e + n) k b.1 (omega arith) h in (
            f.x,
            record {
              q = f.q;
              is = fill-whole (length f.x) n e f.q (f.x ++ crlf []) (omega (arith, f.ends)) (behind max_bytes n e c)
                  f.is;
              long = f.long;
            },
          )
      go Nothing c h = ([], record { q = framed [] []; is = fill-nothing 0 (crlf []) (count-says max_bytes s p Nothing c); long = lacks-same 5 k h })
      go (Digits m) c h =
          let x : Bytes = replicate m 58 in
          let l : length x ≡ m = length-replicate m 58 in
          let z = lacks-same (m + 4) k h in (
            x,
            record {
              q = crlf (x ++ crlf []);
              is = fill-digits (length x) m (x ++ crlf []) l (count-says max_bytes s p (Digits m) c).1;
              long = omega
                  (arith, length-append x (crlf []));
            },
          )
      go (Ended m) c h =
          let x : Bytes = replicate m 58 in
          let l : length x ≡ m = length-replicate m 58 in
          let z = lacks-same (m + 3) k h in (
            x,
            record {
              q = 10 ∷ (x ++ crlf []);
              is = fill-ended (length x) m (x ++ crlf []) l (count-says max_bytes s p (Ended m) c).1;
              long = omega
                  (arith, length-append x (crlf []));
            },
          )
      go NoCount c h = absurd (never-lacks k h)

  -- ---- integers and booleans

  -- digits
  digits-found : (lim k : ℕ) (c : Count) → count_begun lim s p ≡ c → digits_of c ≡ Err (Lacks k) → (n : ℕ) × (n ≤ lim) × Rest (counted n []) s p k
  unfolding digits
  digits-found lim k (Whole n e) c h = absurd (ends-lacks e k h)
  digits-found lim k Nothing c h = (0, omega arith, record { q = counted 0 []; is = fill-nothing 0 [] (count-says lim s p Nothing c); long = lacks-same 3 k h })
  digits-found lim k (Digits m) c h =
      let w = count-says lim s p (Digits m) c in
      (m, w.0, record { q = crlf []; is = fill-digits m m [] refl w.1; long = lacks-same 2 k h })
  digits-found lim k (Ended m) c h =
      let w = count-says lim s p (Ended m) c in
      (m, w.0, record { q = 10 ∷ []; is = fill-ended m m [] refl w.1; long = lacks-same 1 k h })
  digits-found lim k NoCount c h = absurd (never-lacks k h)

  -- digits that are not 0
  minus-found : (lim k : ℕ) (c : Count) → 1 ≤ lim → count_begun lim s p ≡ c → minus_of c ≡ Err (Lacks k) → (n : ℕ) × (n < lim) × Rest (counted (suc n) []) s p k
  unfolding digits
  minus-found lim k (Whole n e) o c h = absurd (by_test (eqb n 0) (λ t. never-lacks k (rw t at h)) (λ t. ends-lacks e k (rw t at h)))
  minus-found lim k Nothing o c h =
      (0, omega arith, record { q = counted 1 []; is = fill-nothing 1 [] (count-says lim s p Nothing c); long = lacks-same 3 k h })
  minus-found lim k (Digits m) o c h =
      let w = count-says lim s p (Digits m) c in
      let b = w.0 in
      by_test (eqb m 0)
      (λ t. absurd (never-lacks k (rw t at h)))
      (λ t.
      let z = eqb-false m 0 t in
      (m - 1, omega arith, record { q = crlf []; is = fill-digits (suc (m - 1)) m [] (omega arith) w.1; long = lacks-same 2 k (rw t at h) }))
  minus-found lim k (Ended m) o c h =
      let w = count-says lim s p (Ended m) c in
      let b = w.0 in
      by_test (eqb m 0)
      (λ t. absurd (never-lacks k (rw t at h)))
      (λ t.
      let z = eqb-false m 0 t in
      (m - 1, omega arith, record { q = 10 ∷ []; is = fill-ended (suc (m - 1)) m [] (omega arith) w.1; long = lacks-same 1 k (rw t at h) }))
  minus-found lim k NoCount o c h = absurd (never-lacks k h)

-- behind a first byte
pub rest-behind : (s : Bytes) (p x k : ℕ) (b : Bytes) → p < length s → get_or s p 0 ≡ x → Rest b s (p + 1) k → Rest (x ∷ b) s p k
rest-behind s p x k b l e r =
    record {
      q = r.q;
      is = ap (λ (z : Bytes). x ∷ z) r.is
          ∙ ap (λ (z : Bytes). z ++ r.q) (sym (step s p l ∙ ap (λ (y : ℕ). y ∷ drop (p + 1) s) e));
      long = r.long;
    }

module _ (s : Bytes) (p k : ℕ) where
  pub integer-found : integer_begun s p ≡ Err (Lacks k) → (z : ℤ) × Fits64 z × Rest (integer z ++ crlf []) s p k
  unfolding integer_begun
  integer-found h =
      by_test (eqb (get_or s p 0) 45)
      (λ t.
      let e = eqb-true (get_or s p 0) 45 t in
      let f = minus-found s (p + 1) 9223372036854775808 k (count_begun 9223372036854775808 s (p + 1)) (omega arith) refl (rw t at h) in
      (negsuc f.0, f.1, rest-behind s p 45 k (counted (suc f.0) []) (inside s p (omega arith)) e f.2))
      (λ t.
      let f = digits-found s p 9223372036854775807 k (count_begun 9223372036854775807 s p) refl (rw t at h) in
      let b = f.1 in
      (pos f.0, omega arith, f.2))

  pub boolean-found : p ≤ length s → boolean_begun s p ≡ Err (Lacks k) → (b : Bool) × Rest (cond b 116 102 ∷ crlf []) s p k
  unfolding boolean_begun
  boolean-found l h =
      by_test (leb (length s) p)
      (λ t.
      let d : drop p s ≡ [] = drop_of_length-le s {i = p} (leb-true (length s) p t) in
      (true, record { q = 116 ∷ crlf []; is = ap (λ (x : Bytes). x ++ (116 ∷ crlf [])) (sym d); long = lacks-same 3 k (rw t at h) }))
      (λ t.
      let o = leb-false (length s) p t in
      by_test (eqb (get_or s p 0) 116)
      (λ c. (true, rest-behind s p 116 k (crlf []) o (eqb-true (get_or s p 0) 116 c) (crlf-found s (p + 1) k (omega arith) (rw (t, c) at h))))
      (λ c.
      by_test (eqb (get_or s p 0) 102)
      (λ f. (false, rest-behind s p 102 k (crlf []) o (eqb-true (get_or s p 0) 102 f) (crlf-found s (p + 1) k (omega arith) (rw (t, c, f) at h))))
      (λ f. absurd (never-lacks k (rw (t, c, f) at h)))))
