-- One equation for each way through the reader's code, by which the proofs of its functions go. Assumes nothing.
-- (Where a definition changes, a worked case is to say so first: this file cites one.)
use Rattle.std.specs.Prelude.{◌≡◌, refl, ◌⊎◌, true, false, ℕ, zero, suc, ◌+◌, ◌*◌, ◌-◌, ◌≤◌, ◌<◌, min, leb, eqb, length, get_or, take, drop, Result, Ok, Err}
use Rattle.std.proofs.Common.{inl, inr, sym, ap, ◌∙◌, arith, length-take, take_all}
use borrow.Author.Tests.{leb-true, leb-false, le-leb, lt-leb, ne_eqb}
use Rattle.buffer.specs.Cases.{by_test}
use Rattle.buffer.specs.Same.{Bytes}
use Rattle.buffer.specs.Places.{get_or-out}
use Rattle.config.specs.Limits.{max_bytes, max_depth}
use Rattle.decimal.specs.Read.{lead, val_acc}
use Rattle.resp3.specs.Ends.{plain, null_word_b}
use Rattle.resp3.specs.Kinds.{kind_of}
use Rattle.resp3.specs.declared.Kind.{Kind}
use Rattle.resp3_prefix.specs.declared.NotWhole.{NotWhole}
use Rattle.resp3_prefix.specs.declared.NotWhole.TheVariants.{Lacks, Never}
use Rattle.resp3_prefix.specs.declared.Count.{Count}
use Rattle.resp3_prefix.specs.declared.Count.TheVariants.{Whole, Nothing, Digits, Ended, Never as NoCount}
use Rattle.resp3_prefix.specs.Begun.{lacking, lacking_row, lacking_below, crlf_begun, count_end, count_begun, line_begun, blob_of, blob_begun}
use Rattle.resp3_prefix.specs.Begun.{one_begun, alone_of, kind_begun}
use Rattle.resp3_prefix.specs.Begun.{verbatim_body, verbatim_digits, verbatim_of, verbatim_begun, digits_of, minus_of, integer_begun, boolean_begun}
use Rattle.resp3_prefix.specs.Begun.{body_begun, head_begun, head_then, begun_then, iter, value_begun, row_begun, within, first_value}

-- ---- sizes

pub lacking-yes : (k : ℕ) → k ≤ max_bytes → lacking k ≡ Err (Lacks k)
unfolding lacking
lacking-yes k l = rw (le-leb k max_bytes l)

pub lacking-no : (k : ℕ) → max_bytes < k → lacking k ≡ Err Never
unfolding lacking
lacking-no k l = rw (lt-leb k max_bytes l)

pub row-far : (k n : ℕ) → max_bytes < k → lacking_row k n ≡ Err Never
unfolding lacking_row
row-far k n l = rw (lt-leb k max_bytes l)

pub row-many : (k n : ℕ) → k ≤ max_bytes → max_bytes < n → lacking_row k n ≡ Err Never
unfolding lacking_row
row-many k n l m = rw (le-leb k max_bytes l, lt-leb n max_bytes m)

pub row-sum : (k n : ℕ) → k ≤ max_bytes → n ≤ max_bytes → lacking_row k n ≡ lacking (k + 3 * n)
unfolding lacking_row
row-sum k n l m = rw (le-leb k max_bytes l, le-leb n max_bytes m)

pub below_none : (d k n : ℕ) → n ≡ 0 → lacking_below d k n ≡ Err (Lacks k)
unfolding lacking_below
below_none d k n e = rw e

pub below-deep : (d k n : ℕ) → ((n ≡ 0) → ⊥) → d ≡ 0 → lacking_below d k n ≡ Err Never
unfolding lacking_below
below-deep d k n m e = rw (ne_eqb n 0 m, e)

pub below_row : (d k n : ℕ) → ((n ≡ 0) → ⊥) → ((d ≡ 0) → ⊥) → lacking_below d k n ≡ lacking_row k n
unfolding lacking_below
below_row d k n m e = rw (ne_eqb n 0 m, ne_eqb d 0 e)

-- at most two for each of at most m
pub product : (a n m : ℕ) → a ≤ 2 → n ≤ m → a * n ≤ 2 * m
product zero n m l h = omega arith
product (suc zero) n m l h = omega arith
product (suc (suc zero)) n m l h = omega arith
product (suc (suc (suc a))) n m l h = absurd (omega arith)

-- ---- CR LF

module _ (s : Bytes) (i : ℕ) where
  pub crlf-out : length s ≤ i → crlf_begun s i ≡ Err (Lacks (i + 2 - length s))
  unfolding crlf_begun
  crlf-out l = rw (le-leb (length s) i l)

  pub crlf-not : i < length s → ((get_or s i 0 ≡ 13) → ⊥) → crlf_begun s i ≡ Err Never
  unfolding crlf_begun
  crlf-not l c = rw (lt-leb (length s) i l, ne_eqb (get_or s i 0) 13 c)

  pub crlf-cr : i < length s → get_or s i 0 ≡ 13 → length s ≤ i + 1 → crlf_begun s i ≡ Err (Lacks 1)
  unfolding crlf_begun
  crlf-cr l c m = rw (lt-leb (length s) i l, c, le-leb (length s) (i + 1) m)

  pub crlf-both : i < length s → get_or s i 0 ≡ 13 → i + 1 < length s → get_or s (i + 1) 0 ≡ 10 → crlf_begun s i ≡ Ok (i + 2)
  unfolding crlf_begun
  crlf-both l c m f = rw (lt-leb (length s) i l, c, lt-leb (length s) (i + 1) m, f)

  pub crlf-odd : i < length s → get_or s i 0 ≡ 13 → i + 1 < length s → ((get_or s (i + 1) 0 ≡ 10) → ⊥) → crlf_begun s i ≡ Err Never
  unfolding crlf_begun
  crlf-odd l c m f = rw (lt-leb (length s) i l, c, lt-leb (length s) (i + 1) m, ne_eqb (get_or s (i + 1) 0) 10 f)

  -- the same behind a number
  module _ (v : ℕ) where
    pub end-out : length s ≤ i → count_end s i v ≡ Digits v
    unfolding count_end
    end-out l = rw (le-leb (length s) i l)

    pub end-not : i < length s → ((get_or s i 0 ≡ 13) → ⊥) → count_end s i v ≡ NoCount
    unfolding count_end
    end-not l c = rw (lt-leb (length s) i l, ne_eqb (get_or s i 0) 13 c)

    pub end-cr : i < length s → get_or s i 0 ≡ 13 → length s ≤ i + 1 → count_end s i v ≡ Ended v
    unfolding count_end
    end-cr l c m = rw (lt-leb (length s) i l, c, le-leb (length s) (i + 1) m)

    pub end-both : i < length s → get_or s i 0 ≡ 13 → i + 1 < length s → get_or s (i + 1) 0 ≡ 10 → count_end s i v ≡ Whole v (i + 2)
    unfolding count_end
    end-both l c m f = rw (lt-leb (length s) i l, c, lt-leb (length s) (i + 1) m, f)

    pub end-odd : i < length s → get_or s i 0 ≡ 13 → i + 1 < length s → ((get_or s (i + 1) 0 ≡ 10) → ⊥) → count_end s i v ≡ NoCount
    unfolding count_end
    end-odd l c m f = rw (lt-leb (length s) i l, c, lt-leb (length s) (i + 1) m, ne_eqb (get_or s (i + 1) 0) 10 f)

-- ---- numbers

module _ (lim : ℕ) (s : Bytes) (at : ℕ) where
  pub count-out : length s ≤ at → count_begun lim s at ≡ Nothing
  unfolding count_begun
  count-out l = rw (le-leb (length s) at l)

  pub count-zero : at < length s → get_or s at 0 ≡ 48 → count_begun lim s at ≡ count_end s (at + 1) 0
  unfolding count_begun
  count-zero l h = rw (lt-leb (length s) at l, h)

  pub count_none : at < length s → ((get_or s at 0 ≡ 48) → ⊥) → lead (drop at s) ≡ 0 → count_begun lim s at ≡ NoCount
  unfolding count_begun
  count_none l h e = rw (lt-leb (length s) at l, ne_eqb (get_or s at 0) 48 h, e)

  pub count-over : at < length s → ((get_or s at 0 ≡ 48) → ⊥) → lim < val_acc 0 (drop at s) → count_begun lim s at ≡ NoCount
  unfolding count_begun
  count-over l h o =
      rw (lt-leb (length s) at l, ne_eqb (get_or s at 0) 48 h, lt-leb (val_acc 0 (drop at s)) lim o) (by_test (eqb (lead (drop at s)) 0) (λ e. rw e) (λ e. rw e))

  pub count-more : (i v : ℕ) → at < length s → ((get_or s at 0 ≡ 48) → ⊥) → at < i → at + lead (drop at s) ≡ i → val_acc 0 (drop at s) ≡ v → v ≤ lim
      → count_begun lim s at ≡ count_end s i v
  unfolding count_begun
  count-more i v l h o e f m =
      rw (lt-leb (length s) at l, ne_eqb (get_or s at 0) 48 h, ne_eqb (lead (drop at s)) 0 (omega arith), f, le-leb v lim m, e)

-- ---- values with none inside

pub line-is : (s : Bytes) (at i : ℕ) → at + plain (drop at s) ≡ i → line_begun s at ≡ crlf_begun s i
unfolding line_begun
line-is s at i e = rw e

pub blob-is : (s : Bytes) (at : ℕ) (c : Count) → count_begun max_bytes s at ≡ c → blob_begun s at ≡ blob_of s c
unfolding blob_begun
blob-is s at c e = rw e

pub verbatim-is : (s : Bytes) (at : ℕ) (c : Count) → count_begun max_bytes s at ≡ c → verbatim_begun s at ≡ verbatim_of s c
unfolding verbatim_begun
verbatim-is s at c e = rw e

module _ (s : Bytes) (n e : ℕ) where
  pub body-few : n < 4 → verbatim_body s n e ≡ Err Never
  unfolding verbatim_body
  body-few l = rw (lt-leb 4 n l)

  pub body-out : 4 ≤ n → length s ≤ e + 3 → verbatim_body s n e ≡ crlf_begun s (e + n)
  unfolding verbatim_body
  body-out l m = rw (le-leb 4 n l, le-leb (length s) (e + 3) m)

  pub body-colon : 4 ≤ n → e + 3 < length s → get_or s (e + 3) 0 ≡ 58 → verbatim_body s n e ≡ crlf_begun s (e + n)
  unfolding verbatim_body
  body-colon l m c = rw (le-leb 4 n l, lt-leb (length s) (e + 3) m, c)

  pub body-no-colon : 4 ≤ n → e + 3 < length s → ((get_or s (e + 3) 0 ≡ 58) → ⊥) → verbatim_body s n e ≡ Err Never
  unfolding verbatim_body
  body-no-colon l m c = rw (le-leb 4 n l, lt-leb (length s) (e + 3) m, ne_eqb (get_or s (e + 3) 0) 58 c)

pub digits-four : (m : ℕ) → 4 ≤ m → verbatim_digits m ≡ Err (Lacks (m + 4))
unfolding verbatim_digits
digits-four m l = rw (le-leb 4 m l)

pub digits-zero : (m : ℕ) → m ≡ 0 → verbatim_digits m ≡ Err Never
unfolding verbatim_digits
digits-zero m e = rw e

pub digits-few : (m : ℕ) → m < 4 → ((m ≡ 0) → ⊥) → verbatim_digits m ≡ Err (Lacks (10 * m + 5))
unfolding verbatim_digits
digits-few m l e = rw (lt-leb 4 m l, ne_eqb m 0 e)

pub ended-four : (s : Bytes) (m : ℕ) → 4 ≤ m → verbatim_of s (Ended m) ≡ Err (Lacks (m + 3))
ended-four s m l = rw (le-leb 4 m l)

pub ended-few : (s : Bytes) (m : ℕ) → m < 4 → verbatim_of s (Ended m) ≡ Err Never
ended-few s m l = rw (lt-leb 4 m l)

pub minus-whole : (n e : ℕ) → ((n ≡ 0) → ⊥) → minus_of (Whole n e) ≡ Ok e
minus-whole n e h = rw (ne_eqb n 0 h)

pub minus-digits : (m : ℕ) → ((m ≡ 0) → ⊥) → minus_of (Digits m) ≡ Err (Lacks 2)
minus-digits m h = rw (ne_eqb m 0 h)

pub minus-ended : (m : ℕ) → ((m ≡ 0) → ⊥) → minus_of (Ended m) ≡ Err (Lacks 1)
minus-ended m h = rw (ne_eqb m 0 h)

module _ (s : Bytes) (at : ℕ) where
  pub integer-minus : (c : Count) → get_or s at 0 ≡ 45 → count_begun 9223372036854775808 s (at + 1) ≡ c → integer_begun s at ≡ minus_of c
  unfolding integer_begun
  integer-minus c h e = rw (h, e)

  pub integer-plain : (c : Count) → ((get_or s at 0 ≡ 45) → ⊥) → count_begun 9223372036854775807 s at ≡ c → integer_begun s at ≡ digits_of c
  unfolding integer_begun
  integer-plain c h e = rw (ne_eqb (get_or s at 0) 45 h, e)

  -- past the end no minus stands
  pub integer-out : length s ≤ at → integer_begun s at ≡ Err (Lacks 3)
  unfolding integer_begun count_begun
  integer-out l = rw (get_or-out s at l, le-leb (length s) at l)

  pub bool-out : length s ≤ at → boolean_begun s at ≡ Err (Lacks 3)
  unfolding boolean_begun
  bool-out l = rw (le-leb (length s) at l)

  pub bool-t : at < length s → get_or s at 0 ≡ 116 → boolean_begun s at ≡ crlf_begun s (at + 1)
  unfolding boolean_begun
  bool-t l h = rw (lt-leb (length s) at l, h)

  pub bool-f : at < length s → get_or s at 0 ≡ 102 → boolean_begun s at ≡ crlf_begun s (at + 1)
  unfolding boolean_begun
  bool-f l h = rw (lt-leb (length s) at l, h)

  pub bool-is : at < length s → (get_or s at 0 ≡ 102) ⊎ (get_or s at 0 ≡ 116) → boolean_begun s at ≡ crlf_begun s (at + 1)
  bool-is l (inl h) = bool-f l h
  bool-is l (inr h) = bool-t l h

  pub bool-else : at < length s → ((get_or s at 0 ≡ 116) → ⊥) → ((get_or s at 0 ≡ 102) → ⊥) → boolean_begun s at ≡ Err Never
  unfolding boolean_begun
  bool-else l h g = rw (lt-leb (length s) at l, ne_eqb (get_or s at 0) 116 h, ne_eqb (get_or s at 0) 102 g)

-- ---- values with others inside

module _ (d : ℕ) (s : Bytes) (at : ℕ) where
  pub kind-out : length s ≤ at → kind_begun d s at ≡ Err (Lacks 3)
  unfolding kind_begun
  kind-out l = rw (le-leb (length s) at l)

  pub kind-is : (k : Kind) → at < length s → kind_of (get_or s at 0) ≡ k → kind_begun d s at ≡ body_begun d k s (at + 1)
  unfolding kind_begun
  kind-is k l e = rw (lt-leb (length s) at l, e)

  pub head-null : null_word_b s at ≡ true → head_begun d s at ≡ alone_of (one_begun s (at + 2))
  unfolding head_begun
  head-null w = rw w

  pub head-kind : null_word_b s at ≡ false → head_begun d s at ≡ kind_begun d s at
  unfolding head_begun
  head-kind w = rw w

module _ (d : ℕ) (s : Bytes) where
  pub value-zero : (at : ℕ) → d ≡ 0 → value_begun d s at ≡ Err Never
  unfolding value_begun
  value-zero at h = rw h

  pub row-none : (n at : ℕ) → n ≡ 0 → row_begun d s n at ≡ Ok at
  unfolding row_begun iter
  row-none n at h = rw h

pub value-head : (d : ℕ) (s : Bytes) (at : ℕ) (x : Result (ℕ × ℕ) NotWhole) → ((d ≡ 0) → ⊥) → head_begun (d - 1) s at ≡ x
    → value_begun d s at ≡ head_then x (λ n e. row_begun (d - 1) s n e)
unfolding value_begun row_begun
value-head zero s at x z h = absurd (z refl)
value-head (suc d) s at x z h = let j : suc d - 1 ≡ d = omega arith in rw j (let k : head_begun d s at ≡ x = rw j at h in rw k)

-- one value of a row
pub row_one : (d : ℕ) (s : Bytes) (n at : ℕ) (x : Result ℕ NotWhole) → 0 < n → value_begun d s at ≡ x
    → row_begun d s n at ≡ begun_then x (n - 1) (λ e. row_begun d s (n - 1) e)
unfolding row_begun iter
row_one d s zero at x l h = absurd (omega arith)
row_one d s (suc n) at x l h = let j : suc n - 1 ≡ n = omega arith in rw (j, h)

-- ---- the verdict

pub within-far : (n k : ℕ) → max_bytes < k → within n (Err (Lacks k)) ≡ Err Never
within-far n k l = rw (lt-leb (n + k) max_bytes (omega arith))

pub within-yes : (n k : ℕ) → k ≤ max_bytes → n ≤ max_bytes - k → within n (Err (Lacks k)) ≡ Err (Lacks k)
within-yes n k l m = rw (le-leb (n + k) max_bytes (omega arith))

pub within-no : (n k : ℕ) → k ≤ max_bytes → max_bytes - k < n → within n (Err (Lacks k)) ≡ Err Never
within-no n k l m = rw (lt-leb (n + k) max_bytes (omega arith))

-- a value needs no more than so many of the bytes
pub take-most : (s : Bytes) (n m : ℕ) → n ≡ min (length s) m → take n s ≡ take m s
take-most s n m e =
    by_test (leb (length s) m)
    (λ t. let l = leb-true (length s) m t in take_all n s (omega arith) ∙ sym (take_all m s l))
    (λ t. let l = leb-false (length s) m t in let k : n ≡ m = omega arith in ap (λ (i : ℕ). take i s) k)

pub first-is : (s : Bytes) (n : ℕ) (x : Result ℕ NotWhole) → n ≡ min (length s) max_bytes → x ≡ value_begun max_depth (take n s) 0
    → within (length s) x ≡ first_value s
unfolding first_value
first-is s n x e h = ap (within (length s)) (h ∙ ap (λ (t : Bytes). value_begun max_depth t 0) (take-most s n max_bytes e))

-- and they are no more
pub most-small : (s : Bytes) (n : ℕ) → n ≡ min (length s) max_bytes → length (take n s) ≤ max_bytes
most-small s n e = let k = length-take n s in omega arith

pub most-long : (s : Bytes) (n : ℕ) → n ≡ min (length s) max_bytes → n ≡ length (take n s)
most-long s n e = let k = length-take n s in omega arith
