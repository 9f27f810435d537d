-- Verbatim strings of which a beginning stands in the bytes: some string begins so, and is as much longer as is said. Assumes nothing.
use Rattle.std.specs.Prelude.{◌≡◌, ℕ, ◌+◌, ◌*◌, ◌-◌, ◌/◌, ◌%◌, ◌≤◌, ◌<◌, leb, eqb, get_or, take, drop, Err}
use Rattle.std.proofs.Math.Path.{refl, ap}
use Rattle.std.proofs.Common.{sym, ◌∙◌, arith, length-drop, take-append-drop, drop-drop, length-take-le}
use mathlib.Core.List.{[], ◌∷◌, ◌++◌, append_assoc}
use Rattle.std.proofs.Math.ListN.{length, replicate, length-append}
use Rattle.std.proofs.lemmas.List.{length-replicate}
use borrow.Author.Tests.{leb-true, leb-false, eqb-true, eqb-false}
use Rattle.buffer.specs.Cases.{by_test}
use Rattle.buffer.specs.Same.{Bytes}
use Rattle.buffer.specs.Places.{step}
use Rattle.config.specs.Limits.{max_bytes}
use Rattle.decimal.specs.Digits.{digits}
use Rattle.decimal.specs.DigitLaws.{digits_more}
use Rattle.resp3.specs.Value.{crlf, counted, framed}
use Rattle.resp3_prefix.specs.declared.NotWhole.TheVariants.{Lacks}
use Rattle.resp3_prefix.specs.declared.Count.{Count}
use Rattle.resp3_prefix.specs.declared.Count.TheVariants.{Whole, Nothing, Digits, Ended, Never as NoCount}
use Rattle.resp3_prefix.specs.Begun.{crlf_begun, count_begun, verbatim_body, verbatim_digits, verbatim_of, verbatim_begun}
use Rattle.resp3_prefix.specs.CountSays.{count-says, whole-bounds}
use Rattle.resp3_prefix.specs.Pieces.{crlf-lacks, frame_found}
use Rattle.resp3_prefix.specs.Found.{Rest, lacks-same, never-lacks, fill-nothing, fill-digits, fill-ended, fill-whole, behind}

-- a string that begins with what stands at p, and is k longer
abbrev pub VerbatimFound : Bytes → ℕ → ℕ → Type 0
VerbatimFound s p k = (f : Bytes) × (xs : Bytes) × (length f ≡ 3) × Rest (framed (f ++ (58 ∷ xs)) []) s p k

-- n colons, as a format, a colon and a text
abbrev three : Bytes
three = 58 ∷ 58 ∷ 58 ∷ []

abbrev text : ℕ → Bytes
text n = three ++ (58 ∷ replicate (n - 4) 58)

text-length : (n : ℕ) → 4 ≤ n → length (text n) ≡ n
text-length n l = let k = length-replicate {A = ℕ} (n - 4) 58 in omega arith

-- a 0 behind the digits of a number above 0
tenfold : (m : ℕ) → ((m ≡ 0) → ⊥) → digits (10 * m) ≡ digits m ++ (48 ∷ [])
tenfold m z =
    let q : 10 * m / 10 ≡ m = omega arith in
    let r : 48 + 10 * m % 10 ≡ 48 = omega arith in
    digits_more (10 * m) (omega arith) ∙ rw (q, r)

module _ (s : Bytes) (p k : ℕ) where
  -- of its length, digits stand there
  of-digits : (m : ℕ) → drop p s ≡ digits m → verbatim_digits m ≡ Err (Lacks k) → VerbatimFound s p k
  unfolding verbatim_digits
  of-digits m d h =
      by_test (leb 4 m)
      (λ t.
      let X : Bytes = text m in
      let l : length X ≡ m = text-length m (leb-true 4 m t) in
      let z = lacks-same (m + 4) k (rw t at h) in (
        three,
        replicate (m - 4) 58,
        refl,
        record { q = crlf (X ++ crlf []); is = fill-digits s p (length X) m (X ++ crlf []) l d; long = omega (arith, length-append X (crlf [])) },
      ))
      (λ t.
      by_test (eqb m 0)
      (λ u. absurd (never-lacks k (rw (t, u) at h)))
      (λ u.
      let o = eqb-false m 0 u in
      let X : Bytes = text (10 * m) in
      let l : length X ≡ 10 * m = text-length (10 * m) (omega arith) in
      let z = lacks-same (10 * m + 5) k (rw (t, u) at h) in
      let r : Bytes = crlf (X ++ crlf []) in (
        three,
        replicate (10 * m - 4) 58,
        refl,
        record {
          q = 48 ∷ r;
          is =
              ap (λ (i : ℕ). counted i (X ++ crlf [])) l
              ∙ ap (λ (x : Bytes). x ++ r) (tenfold m o)
              ∙ append_assoc (digits m) (48 ∷ []) r
              ∙ ap (λ (x : Bytes). x ++ (48 ∷ r)) (sym d);
          long = omega (arith, length-append X (crlf []));
        },
      )))

  module _ (n e : ℕ) (b : e ≤ length s) (d : drop p s ≡ counted n (drop e s)) (four : 4 ≤ n) (h : crlf_begun s (e + n) ≡ Err (Lacks k)) where
    -- the bytes end before the colon
    before_colon : length s ≤ e + 3 → VerbatimFound s p k
    before_colon l =
        let t : Bytes = drop e s in
        let a = length-drop e s in
        let w : Bytes = replicate (3 - length t) 58 in
        let c : length w ≡ 3 - length t = length-replicate (3 - length t) 58 in
        let f : Bytes = t ++ w in
        let i : length f ≡ 3 = omega (arith, length-append t w) in
        let xs : Bytes = replicate (n - 4) 58 in
        let j : length xs ≡ n - 4 = length-replicate (n - 4) 58 in
        let q : Bytes = w ++ (58 ∷ (xs ++ crlf [])) in
        crlf-lacks s (e + n) k h
        (λ m o. (
          f,
          xs,
          i,
          record {
            q = q;
            is =
                fill-whole s p (length (f ++ (58 ∷ xs))) n e q ((f ++ (58 ∷ xs)) ++ crlf []) (omega (arith, length-append f (58 ∷ xs))) d
                (append_assoc f (58 ∷ xs) (crlf []) ∙ append_assoc t w (58 ∷ (xs ++ crlf [])));
            long = omega (arith, length-append w (58 ∷ (xs ++ crlf [])), length-append xs (crlf []));
          },
        ))
        (λ m g o. absurd (omega arith))

    -- the colon stands there
    behind-colon : e + 3 < length s → get_or s (e + 3) 0 ≡ 58 → VerbatimFound s p k
    behind-colon l c =
        let t : Bytes = drop e s in
        let a = length-drop e s in
        let g = frame_found s (e + 4) (e + n) k (omega arith) (omega arith) h in
        let f : Bytes = take 3 t in
        let i : length f ≡ 3 = length-take-le 3 t (omega arith) in
        let u : e + 3 + 1 ≡ e + 4 = omega arith in
        let y : drop 3 t ≡ 58 ∷ drop (e + 4) s = drop-drop 3 e s ∙ step s (e + 3) l ∙ rw (c, u) in
        let x : f ++ (58 ∷ drop (e + 4) s) ≡ t = ap (λ (z : Bytes). f ++ z) (sym y) ∙ take-append-drop 3 t in
        let j = g.ends in (
          f,
          g.x,
          i,
          record {
            q = g.q;
            is =
                fill-whole s p (length (f ++ (58 ∷ g.x))) n e g.q ((f ++ (58 ∷ g.x)) ++ crlf []) (omega (arith, length-append f (58 ∷ g.x))) d
                (append_assoc f (58 ∷ g.x) (crlf []) ∙ ap (λ (z : Bytes). f ++ (58 ∷ z)) g.is
                ∙ sym (append_assoc f (58 ∷ drop (e + 4) s) g.q) ∙ ap (λ (z : Bytes). z ++ g.q) x);
            long = g.long;
          },
        )

  pub verbatim-found : verbatim_begun s p ≡ Err (Lacks k) → VerbatimFound s p k
  unfolding verbatim_begun verbatim_body digits
  verbatim-found h = go (count_begun max_bytes s p) refl h
    where
      go : (c : Count) → count_begun max_bytes s p ≡ c → verbatim_of s c ≡ Err (Lacks k) → VerbatimFound s p k
      go (Whole n e) c h =
          let b = whole-bounds max_bytes s p n e c in
          let d = behind s p max_bytes n e c in
          by_test (leb 4 n)
          (λ t.
          by_test (leb (length s) (e + 3))
          (λ u. before_colon n e b.1 d (leb-true 4 n t) (rw (t, u) at h) (leb-true (length s) (e + 3) u))
          (λ u.
          by_test (eqb (get_or s (e + 3) 0) 58)
          (λ f. behind-colon n e b.1 d (leb-true 4 n t) (rw (t, u, f) at h) (leb-false (length s) (e + 3) u) (eqb-true (get_or s (e + 3) 0) 58 f))
          (λ f. absurd (never-lacks k (rw (t, u, f) at h)))))
          (λ t. absurd (never-lacks k (rw t at h)))
      go Nothing c h = (
        three,
        [],
        refl,
        record {
          q = framed (text 4) [];
          is = fill-nothing s p 4 (text 4 ++ crlf [])
              (count-says max_bytes s p Nothing c);
          long = lacks-same 9 k h;
        },
      )
      go (Digits m) c h = of-digits m (count-says max_bytes s p (Digits m) c).1 h
      go (Ended m) c h =
          by_test (leb 4 m)
          (λ t.
          let X : Bytes = text m in
          let l : length X ≡ m = text-length m (leb-true 4 m t) in
          let z = lacks-same (m + 3) k (rw t at h) in (
            three,
            replicate (m - 4) 58,
            refl,
            record {
              q = 10 ∷ (X ++ crlf []);
              is = fill-ended s p (length X) m (X ++ crlf []) l (count-says max_bytes s p (Ended m) c).1;
              long = omega
                  (arith, length-append X (crlf []));
            },
          ))
          (λ t. absurd (never-lacks k (rw t at h)))
      go NoCount c h = absurd (never-lacks k h)
