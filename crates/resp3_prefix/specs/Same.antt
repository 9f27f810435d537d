-- Where this reader finds a value's end, resp3's reader finds it, and the other way round, in bytes that are no longer than a value may be. So what is
-- proved of that reader (what it accepts was written, what was written it accepts) holds of this one. Assumes nothing.
use Rattle.std.specs.Prelude.{◌≡◌, true, false, ℕ, ◌+◌, ◌*◌, ◌-◌, ◌≤◌, ◌<◌, leb, eqb, length, get_or, drop, Option, Some, None, Result, Ok, Err}
use Rattle.std.proofs.Math.Path.{refl}
use Rattle.std.proofs.Common.{sym, ap, ◌∙◌, arith}
use Rattle.std.proofs.Math.Bool.{cond}
use borrow.Author.Tests.{leb-true, lt-leb, eqb-true, eqb-false}
use Rattle.buffer.specs.Cases.{by_test}
use Rattle.std.proofs.lemmas.Option.{some_pair_parts}
use Rattle.buffer.specs.Same.{Bytes}
use Rattle.config.specs.Limits.{max_bytes}
use Rattle.decimal.specs.Digits.{digits}
use Rattle.decimal.specs.Read.{crlf_b, num_def}
use Rattle.decimal.specs.ReadLaws.{crlf-in}
use Rattle.decimal.specs.NumLaw.{num-law}
use Rattle.decimal.specs.NumSound.{num-sound}
use Rattle.resp3.specs.Ends.{length_at, crlf_end, line_end, blob_end, verbatim_end, number_end, boolean_end}
use Rattle.resp3.specs.Ends as ends
use Rattle.resp3.specs.Paths as paths
use Rattle.resp3.specs.Says.{not-bad, at_same, crlf-says, num-then}
use Rattle.resp3_prefix.specs.declared.NotWhole.{NotWhole}
use Rattle.resp3_prefix.specs.declared.NotWhole.TheVariants.{Lacks, Never}
use Rattle.resp3_prefix.specs.declared.Count.{Count}
use Rattle.resp3_prefix.specs.declared.Count.TheVariants.{Whole, Nothing, Digits, Ended, Never as NoCount}
use Rattle.resp3_prefix.specs.Begun.{lacking, lacking_row, lacking_below, crlf_begun, count_begun, line_begun, blob_of, blob_begun, verbatim_body}
use Rattle.resp3_prefix.specs.Begun.{verbatim_digits, verbatim_of, verbatim_begun, digits_of, minus_of, integer_begun, boolean_begun}
use Rattle.resp3_prefix.specs.Counts.{whole_here}
use Rattle.resp3_prefix.specs.CountSays.{count-says}

-- ---- answers that are no end

pub lacks-no-end : (k e : ℕ) → ◌≡◌ {A = Result ℕ NotWhole} (Err (Lacks k)) (Ok e) → ⊥
lacks-no-end k e h = let z : ◌≡◌ {A = ℕ} 0 1 = cc in omega arith

pub never-no-end : (e : ℕ) → ◌≡◌ {A = Result ℕ NotWhole} (Err Never) (Ok e) → ⊥
never-no-end e h = let z : ◌≡◌ {A = ℕ} 0 1 = cc in omega arith

pub same_end : (a b : ℕ) → ◌≡◌ {A = Result ℕ NotWhole} (Ok a) (Ok b) → a ≡ b
same_end a b h = cc

lacking-no-end : (k e : ℕ) → lacking k ≡ Ok e → ⊥
unfolding lacking
lacking-no-end k e h = by_test (leb k max_bytes) (λ t. lacks-no-end k e (rw t at h)) (λ t. never-no-end e (rw t at h))

pub row-no-end : (k n e : ℕ) → lacking_row k n ≡ Ok e → ⊥
unfolding lacking_row
row-no-end k n e h =
    by_test (leb k max_bytes)
    (λ t. by_test (leb n max_bytes) (λ u. lacking-no-end (k + 3 * n) e (rw (t, u) at h)) (λ u. never-no-end e (rw (t, u) at h)))
    (λ t. never-no-end e (rw t at h))

pub below-no-end : (d k n e : ℕ) → lacking_below d k n ≡ Ok e → ⊥
unfolding lacking_below
below-no-end d k n e h =
    by_test (eqb n 0)
    (λ t. lacks-no-end k e (rw t at h))
    (λ t. by_test (eqb d 0) (λ u. never-no-end e (rw (t, u) at h)) (λ u. row-no-end k n e (rw (t, u) at h)))

-- ---- pieces

-- both readers end at the same places
abbrev pub Agree : Result ℕ NotWhole → Option ℕ → Type 0
Agree x y = ((e : ℕ) → x ≡ Ok e → y ≡ Some e) × ((e : ℕ) → y ≡ Some e → x ≡ Ok e)

-- where neither ends
pub neither : (x : Result ℕ NotWhole) (y : Option ℕ) → ((e : ℕ) → x ≡ Ok e → ⊥) → y ≡ None → Agree x y
neither x y f b = ((λ e h. absurd (f e h)), (λ e h. absurd (not-bad e (sym b ∙ h))))

pub crlf-agree : (s : Bytes) (i : ℕ) → Agree (crlf_begun s i) (crlf_end s i)
unfolding crlf_begun crlf_end crlf_b
crlf-agree s i =
    by_test (eqb (get_or s i 0) 13)
    (λ c.
    by_test (eqb (get_or s (i + 1) 0) 10)
    (λ f.
    let j = crlf-in s i (both_yes s i c f) in
    rw (lt-leb (length s) i (omega arith), lt-leb (length s) (i + 1) j, c, f) ((λ e h. ap Some (same_end (i + 2) e h)), (λ e h. ap Ok (at_same (i + 2) e h))))
    (λ f. rw (c, f) (neither _ None (λ e h. no-crlf s i e c f h) refl)))
    (λ c. rw c (neither _ None (λ e h. no-cr s i e h) refl))
  where
    both_yes : (s : Bytes) (i : ℕ) → eqb (get_or s i 0) 13 ≡ true → eqb (get_or s (i + 1) 0) 10 ≡ true → crlf_b s i ≡ true
    both_yes s i c f = unfold crlf_b in rw (c, f)

    no-cr : (s : Bytes) (i e : ℕ) → cond (leb (length s) i) (Err (Lacks (i + 2 - length s))) (Err Never) ≡ Ok e → ⊥
    no-cr s i e h = by_test (leb (length s) i) (λ t. lacks-no-end _ e (rw t at h)) (λ t. never-no-end e (rw t at h))

    no-crlf : (s : Bytes) (i e : ℕ) → eqb (get_or s i 0) 13 ≡ true → eqb (get_or s (i + 1) 0) 10 ≡ false
        → cond (leb (length s) i) (Err (Lacks (i + 2 - length s))) (cond (leb (length s) (i + 1)) (Err (Lacks 1)) (Err Never)) ≡ Ok e → ⊥
    no-crlf s i e c f h =
        by_test (leb (length s) i)
        (λ t. lacks-no-end _ e (rw t at h))
        (λ t. by_test (leb (length s) (i + 1)) (λ u. lacks-no-end 1 e (rw (t, u) at h)) (λ u. never-no-end e (rw (t, u) at h)))

-- a number is read the same under another limit that it keeps
relimit : (lim new : ℕ) (s : Bytes) (p n e : ℕ) → num_def lim s p ≡ Some (n, e) → n ≤ new → num_def new s p ≡ Some (n, e)
relimit lim new s p n e h l =
    let z = num-sound lim s p n e h in
    let a = num-law lim s p n (drop e s) z.0 z.1 in
    let b = num-law new s p n (drop e s) l z.1 in
    let c : p + length (digits n) + 2 ≡ e = (some_pair_parts _ _ _ _ (sym a ∙ h)).1 in
    b ∙ ap (λ (z : ℕ). Some (n, z)) c

-- what decimal reads as a whole number is one here
whole_from : (lim : ℕ) (s : Bytes) (p n e : ℕ) → num_def lim s p ≡ Some (n, e) → count_begun lim s p ≡ Whole n e
whole_from lim s p n e h =
    let z = num-sound lim s p n e h in
    let a = num-law lim s p n (drop e s) z.0 z.1 in
    let c : p + length (digits n) + 2 ≡ e = (some_pair_parts _ _ _ _ (sym a ∙ h)).1 in
    whole_here lim s p n (drop e s) z.0 z.1 ∙ ap (Whole n) c

module _ (s : Bytes) (small : length s ≤ max_bytes) (p : ℕ) where
  -- a length or count, in both directions
  pub length_to : (n e : ℕ) → count_begun max_bytes s p ≡ Whole n e → n ≤ length s → length_at s p ≡ Some (n, e)
  unfolding length_at
  length_to n e h l = relimit max_bytes (length s) s p n e (count-says max_bytes s p (Whole n e) h) l

  pub length_from : (n e : ℕ) → length_at s p ≡ Some (n, e) → count_begun max_bytes s p ≡ Whole n e
  unfolding length_at
  length_from n e h =
      let b = (paths.length-bounds s p n e h).0 in
      whole_from max_bytes s p n e (relimit (length s) max_bytes s p n e h (omega arith))

  pub line-agree : Agree (line_begun s p) (line_end s p)
  unfolding line_begun line_end
  line-agree = crlf-agree s _

  -- bytes behind their length
  pub blob-agree : Agree (blob_begun s p) (blob_end s p)
  unfolding blob_begun
  blob-agree = ((λ e h. to e (count_begun max_bytes s p) refl h), from)
    where
      to : (e : ℕ) (c : Count) → count_begun max_bytes s p ≡ c → blob_of s c ≡ Ok e → blob_end s p ≡ Some e
      to e (Whole n q) k h =
          let z = (crlf-agree s (q + n)).0 e h in
          let i = (crlf-says s (q + n) e z).0 in
          paths.blob-val s p n q (length_to n q k (omega arith)) ∙ z
      to e Nothing k h = absurd (lacks-no-end 5 e h)
      to e (Digits m) k h = absurd (lacks-no-end _ e h)
      to e (Ended m) k h = absurd (lacks-no-end _ e h)
      to e NoCount k h = absurd (never-no-end e h)

      from : (e : ℕ) → blob_end s p ≡ Some e → blob_of s (count_begun max_bytes s p) ≡ Ok e
      from e h = unfold blob_end in
          let z = num-then (length_at s p) _ e h in
          rw (length_from z.n z.q z.is) ((crlf-agree s (z.q + z.n)).1 e z.then)

  -- the same with a colon as the fourth byte
  pub verbatim-agree : Agree (verbatim_begun s p) (verbatim_end s p)
  unfolding verbatim_begun
  verbatim-agree = ((λ e h. to e (count_begun max_bytes s p) refl h), from)
    where
      digits-no-end : (m e : ℕ) → verbatim_digits m ≡ Ok e → ⊥
      digits-no-end m e h = unfold verbatim_digits in
          by_test (leb 4 m) (λ t. lacks-no-end _ e (rw t at h))
          (λ t. by_test (eqb m 0) (λ u. never-no-end e (rw (t, u) at h)) (λ u. lacks-no-end _ e (rw (t, u) at h)))

      body : (n q e : ℕ) → verbatim_body s n q ≡ Ok e → (4 ≤ n) × (crlf_begun s (q + n) ≡ Ok e) × ((q + 3 < length s) → get_or s (q + 3) 0 ≡ 58)
      body n q e h = unfold verbatim_body in
          by_test (leb 4 n)
          (λ t.
          by_test (leb (length s) (q + 3))
          (λ u. (leb-true 4 n t, (rw (t, u) at h), λ i. absurd (let k = leb-true (length s) (q + 3) u in omega arith)))
          (λ u.
          by_test (eqb (get_or s (q + 3) 0) 58)
          (λ c. (leb-true 4 n t, (rw (t, u, c) at h), λ i. eqb-true (get_or s (q + 3) 0) 58 c))
          (λ c. absurd (never-no-end e (rw (t, u, c) at h)))))
          (λ t. absurd (never-no-end e (rw t at h)))

      to : (e : ℕ) (c : Count) → count_begun max_bytes s p ≡ c → verbatim_of s c ≡ Ok e → verbatim_end s p ≡ Some e
      to e (Whole n q) k h =
          let y = body n q e h in
          let four = y.0 in
          let z = (crlf-agree s (q + n)).0 e y.1 in
          let i = (crlf-says s (q + n) e z).0 in
          paths.verb-val s p n q (length_to n q k (omega arith)) four (y.2 (omega arith)) ∙ z
      to e Nothing k h = absurd (lacks-no-end 9 e h)
      to e (Digits m) k h = absurd (digits-no-end m e h)
      to e (Ended m) k h = absurd (by_test (leb 4 m) (λ t. lacks-no-end _ e (rw t at h)) (λ t. never-no-end e (rw t at h)))
      to e NoCount k h = absurd (never-no-end e h)

      from : (e : ℕ) → verbatim_end s p ≡ Some e → verbatim_of s (count_begun max_bytes s p) ≡ Ok e
      from e h = unfold verbatim_end verbatim_body in
          let z = num-then (length_at s p) _ e h in
          rw (length_from z.n z.q z.is)
          (by_test (leb 4 z.n)
          (λ t.
          by_test (eqb (get_or s (z.q + 3) 0) 58)
          (λ c.
          let y = (crlf-agree s (z.q + z.n)).1 e (rw (t, c) at z.then) in
          by_test (leb (length s) (z.q + 3)) (λ u. rw (t, u) y) (λ u. rw (t, u, c) y))
          (λ c. absurd (not-bad e (rw (t, c) at z.then))))
          (λ t. absurd (not-bad e (rw t at z.then))))

  -- an integer
  pub integer-agree : Agree (integer_begun s p) (number_end s p)
  unfolding integer_begun number_end
  integer-agree =
      by_test (eqb (get_or s p 0) 45)
      (λ t. rw t ((λ e h. minus-to e (count_begun 9223372036854775808 s (p + 1)) refl h), minus-from))
      (λ t. rw t ((λ e h. plus-to e (count_begun 9223372036854775807 s p) refl h), plus-from))
    where
      minus-to : (e : ℕ) (c : Count) → count_begun 9223372036854775808 s (p + 1) ≡ c → minus_of c ≡ Ok e
          → ends.num_then (num_def 9223372036854775808 s (p + 1)) (λ n q. cond (eqb n 0) None (Some q)) ≡ Some e
      minus-to e (Whole n q) k h =
          let z = count-says 9223372036854775808 s (p + 1) (Whole n q) k in
          by_test (eqb n 0) (λ t. absurd (never-no-end e (rw t at h))) (λ t. rw (z, t) (ap Some (same_end q e (rw t at h))))
      minus-to e Nothing k h = absurd (lacks-no-end 3 e h)
      minus-to e (Digits m) k h = absurd (by_test (eqb m 0) (λ t. never-no-end e (rw t at h)) (λ t. lacks-no-end 2 e (rw t at h)))
      minus-to e (Ended m) k h = absurd (by_test (eqb m 0) (λ t. never-no-end e (rw t at h)) (λ t. lacks-no-end 1 e (rw t at h)))
      minus-to e NoCount k h = absurd (never-no-end e h)

      minus-from : (e : ℕ) → ends.num_then (num_def 9223372036854775808 s (p + 1)) (λ n q. cond (eqb n 0) None (Some q)) ≡ Some e
          → minus_of (count_begun 9223372036854775808 s (p + 1)) ≡ Ok e
      minus-from e h =
          let z = num-then (num_def 9223372036854775808 s (p + 1)) _ e h in
          rw (whole_from 9223372036854775808 s (p + 1) z.n z.q z.is)
          (by_test (eqb z.n 0) (λ t. absurd (not-bad e (rw t at z.then))) (λ t. rw t (ap Ok (at_same z.q e (rw t at z.then)))))

      plus-to : (e : ℕ) (c : Count) → count_begun 9223372036854775807 s p ≡ c → digits_of c ≡ Ok e
          → ends.num_then (num_def 9223372036854775807 s p) (λ n q. Some q) ≡ Some e
      plus-to e (Whole n q) k h = rw (count-says 9223372036854775807 s p (Whole n q) k) (ap Some (same_end q e h))
      plus-to e Nothing k h = absurd (lacks-no-end 3 e h)
      plus-to e (Digits m) k h = absurd (lacks-no-end 2 e h)
      plus-to e (Ended m) k h = absurd (lacks-no-end 1 e h)
      plus-to e NoCount k h = absurd (never-no-end e h)

      plus-from : (e : ℕ) → ends.num_then (num_def 9223372036854775807 s p) (λ n q. Some q) ≡ Some e → digits_of (count_begun 9223372036854775807 s p) ≡ Ok e
      plus-from e h =
          let z = num-then (num_def 9223372036854775807 s p) _ e h in
          rw (whole_from 9223372036854775807 s p z.n z.q z.is) (ap Ok (at_same z.q e z.then))

  -- t or f
  pub boolean-agree : Agree (boolean_begun s p) (boolean_end s p)
  unfolding boolean_begun
  boolean-agree =
      by_test (leb (length s) p)
      (λ t. rw t (neither (Err (Lacks 3)) (boolean_end s p) (λ e h. lacks-no-end 3 e h) (paths.bool-out s p (leb-true (length s) p t))))
      (λ t.
      by_test (eqb (get_or s p 0) 116)
      (λ c. rw (t, c, paths.bool-t s p (eqb-true (get_or s p 0) 116 c)) (crlf-agree s (p + 1)))
      (λ c.
      by_test (eqb (get_or s p 0) 102)
      (λ f. rw (t, c, f, paths.bool-f s p (eqb-true (get_or s p 0) 102 f)) (crlf-agree s (p + 1)))
      (λ f. rw (t, c, f) (neither (Err Never) (boolean_end s p) (λ e h. never-no-end e h)
      (paths.bool-else s p (eqb-false (get_or s p 0) 116 c) (eqb-false (get_or s p 0) 102 f))))))
