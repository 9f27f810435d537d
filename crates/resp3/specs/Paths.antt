-- One equation for each way through the reader's code, by which the proofs of its functions go. Assumes nothing.
use Rattle.std.specs.Prelude.{◌≡◌, refl, true, false, cond, not, List, [], ◌∷◌, ℕ, zero, suc, ◌+◌, ◌-◌, ◌<◌, ◌≤◌, eqb, ltb, length, get_or}
use Rattle.std.specs.Prelude.{drop, Option, Some, None}
use Rattle.std.proofs.Common.{sym, ◌∙◌, arith, length-drop, add-one, eqb-true, ne_eqb, le-leb, ltb-true, ltb-false}
use Rattle.std.proofs.lemmas.Bool.{false≢true, lt-leb}
use Rattle.std.proofs.Math.ListN.{get_or-eq_default}
use Rattle.buffer.specs.Same.{Bytes}
use Rattle.buffer.specs.Cases.{by_test}
use Rattle.config.specs.Limits.{max_bytes, max_depth}
use Rattle.decimal.specs.Read.{crlf_b, num_def}
use Rattle.decimal.specs.ReadLaws.{num-out, num-bounds}
use Rattle.buffer.specs.Places.{get_or-out}
use Rattle.resp3.specs.declared.Kind.{Kind}
use Rattle.resp3.specs.declared.Kind.TheVariants.{Unknown}
use Rattle.resp3.specs.declared.Shape.{Shape}
use Rattle.resp3.specs.Kinds.{byte_of, shape_of, kinds, pick, kind_of}
use Rattle.resp3.specs.Value.{plain_b}
use Rattle.resp3.specs.Ends.{num_then, length_at, crlf_end, plain, line_end, blob_end, verbatim_end, number_end, boolean_end, alone_of, count_of}
use Rattle.resp3.specs.Ends.{body_head, null_word_b, one_end, kind_head, null_head, head_at, head_then, iter, value_end, items_end, ends_at, is_value}
use Rattle.resp3.specs.Nulls.{word_out, word-says, word-length}

-- a byte that begins no kind of a list
abbrev pub NoneOf : ℕ → List Kind → Type 0
NoneOf b [] = Unit
NoneOf b (k ∷ ks) = ((b ≡ byte_of k) → ⊥) × NoneOf b ks

-- such a byte is of no kind
pick-none : (b : ℕ) (ks : List Kind) → NoneOf b ks → pick b ks ≡ Unknown
pick-none b [] h = refl
pick-none b (k ∷ ks) h = rw (ne_eqb b (byte_of k) h.0) (pick-none b ks h.1)

-- the same of all kinds
pub kind-none : (b : ℕ) → NoneOf b kinds → kind_of b ≡ Unknown
unfolding kind_of
kind-none b h = pick-none b kinds h

-- CR LF
pub crlf-yes : (s : Bytes) (e : ℕ) → crlf_b s e ≡ true → crlf_end s e ≡ Some (e + 2)
unfolding crlf_end
crlf-yes s e h = rw h

-- no CR LF
pub crlf-no : (s : Bytes) (e : ℕ) → crlf_b s e ≡ false → crlf_end s e ≡ None
unfolding crlf_end
crlf-no s e h = rw h

-- a line
pub plain_out : (s : Bytes) (i : ℕ) → length s ≤ i → plain_b (get_or s i 13) ≡ false
unfolding plain_b
plain_out s i h = rw (get_or-eq_default s 13 h)

-- within the list the default plays no part
pub get_d_any : (s : Bytes) (i : ℕ) → i < length s → get_or s i 13 ≡ get_or s i 0
get_d_any [] i h = absurd (omega arith)
get_d_any (x ∷ s) zero h = refl
get_d_any (x ∷ s) (suc i) h = get_d_any s i (omega arith)

-- CR ends a line
pub plain-cr : (s : Bytes) (i : ℕ) → i < length s → get_or s i 0 ≡ 13 → plain_b (get_or s i 13) ≡ false
unfolding plain_b
plain-cr s i l h = rw (get_d_any s i l, h)

-- else LF does
pub plain-else : (s : Bytes) (i : ℕ) → i < length s → ((get_or s i 0 ≡ 13) → ⊥) → plain_b (get_or s i 13) ≡ not (eqb (get_or s i 0) 10)
unfolding plain_b
plain-else s i l h = rw (get_d_any s i l, ne_eqb (get_or s i 0) 13 h)

-- where a plain byte does not stand, none follows
pub plain-stop : (s : Bytes) (i : ℕ) → plain_b (get_or s i 13) ≡ false → plain (drop i s) ≡ 0
unfolding plain
plain-stop [] zero e = refl
plain-stop [] (suc i) e = refl
plain-stop (x ∷ s) zero e = rw e
plain-stop (x ∷ s) (suc i) e = plain-stop s i e

-- CR is not plain
plain-13 : plain_b 13 ≡ true → ⊥
unfolding plain_b
plain-13 e = false≢true e

-- where one stands, one fewer follows
plain-step' : (s : Bytes) (i : ℕ) → plain_b (get_or s i 13) ≡ true → (i < length s) × (plain (drop i s) ≡ suc (plain (drop (suc i) s)))
unfolding plain
plain-step' [] i e = absurd (plain-13 e)
plain-step' (x ∷ s) zero e = (omega arith, rw e)
plain-step' (x ∷ s) (suc i) e = let r = plain-step' s i e in (omega arith, r.1)

-- the same at i + 1
pub plain_step : (s : Bytes) (i : ℕ) → plain_b (get_or s i 13) ≡ true → (i < length s) × (plain (drop i s) ≡ plain (drop (i + 1) s) + 1)
plain_step s i e = let r = plain-step' s i e in (r.0, rw (add-one i, r.1) (omega arith))

-- plain bytes end in the list
plain-within : (s : Bytes) → plain s ≤ length s
unfolding plain
plain-within [] = omega arith
plain-within (x ∷ s) = let k = plain-within s in by_test (plain_b x) (λ e. rw e (omega arith)) (λ e. rw e (omega arith))

pub plain-in : (s : Bytes) (at : ℕ) → at ≤ length s → at + plain (drop at s) ≤ length s
plain-in s at h = omega (arith, plain-within (drop at s), length-drop at s)

-- a line ends behind its plain bytes
pub line-is : (s : Bytes) (at i : ℕ) → at + plain (drop at s) ≡ i → line_end s at ≡ crlf_end s i
unfolding line_end
line-is s at i e = rw e

-- a length that is read is no more than the bytes there are, and ends in them
pub length-bounds : (s : Bytes) (at n e : ℕ) → length_at s at ≡ Some (n, e) → (n ≤ length s) × (e ≤ length s)
unfolding length_at
length-bounds s at n e h = num-bounds (length s) s at n e h

-- what a number's reading says, in one step
pub blob-bad : (s : Bytes) (at : ℕ) → length_at s at ≡ None → blob_end s at ≡ None
unfolding blob_end
blob-bad s at h = rw h

-- a blob with one
pub blob-val : (s : Bytes) (at n e : ℕ) → length_at s at ≡ Some (n, e) → blob_end s at ≡ crlf_end s (e + n)
unfolding blob_end
blob-val s at n e h = rw h

-- a verbatim string with no length
pub verb-bad : (s : Bytes) (at : ℕ) → length_at s at ≡ None → verbatim_end s at ≡ None
unfolding verbatim_end
verb-bad s at h = rw h

-- with too small a one
pub verb-short : (s : Bytes) (at n e : ℕ) → length_at s at ≡ Some (n, e) → n < 4 → verbatim_end s at ≡ None
unfolding verbatim_end
verb-short s at n e h l = rw (h, lt-leb 4 n l)

-- with no colon
pub verb-colon : (s : Bytes) (at n e : ℕ) → length_at s at ≡ Some (n, e) → 4 ≤ n → ((get_or s (e + 3) 0 ≡ 58) → ⊥) → verbatim_end s at ≡ None
unfolding verbatim_end
verb-colon s at n e h l q = rw (h, le-leb 4 n l, ne_eqb (get_or s (e + 3) 0) 58 q)

-- with both
pub verb-val : (s : Bytes) (at n e : ℕ) → length_at s at ≡ Some (n, e) → 4 ≤ n → get_or s (e + 3) 0 ≡ 58 → verbatim_end s at ≡ crlf_end s (e + n)
unfolding verbatim_end
verb-val s at n e h l q = rw (h, le-leb 4 n l, q)

-- an integer past the end
pub int-out : (s : Bytes) (at : ℕ) → length s ≤ at → number_end s at ≡ None
unfolding number_end
int-out s at h = rw (get_or-out s at h, num-out 9223372036854775807 s at h)

-- behind a minus
pub int-neg : (s : Bytes) (at : ℕ) (r : Option (ℕ × ℕ)) → get_or s at 0 ≡ 45 → num_def 9223372036854775808 s (at + 1) ≡ r
    → number_end s at ≡ num_then r (λ n e. cond (eqb n 0) None (Some e))
unfolding number_end
int-neg s at r h e = rw (h, e)

-- without one
pub int-pos : (s : Bytes) (at : ℕ) (r : Option (ℕ × ℕ)) → ((get_or s at 0 ≡ 45) → ⊥) → num_def 9223372036854775807 s at ≡ r
    → number_end s at ≡ num_then r (λ n e. Some e)
unfolding number_end
int-pos s at r h e = rw (ne_eqb (get_or s at 0) 45 h, e)

-- a boolean past the end
pub bool-out : (s : Bytes) (at : ℕ) → length s ≤ at → boolean_end s at ≡ None
unfolding boolean_end
bool-out s at h = rw (get_or-out s at h)

-- t
pub bool-t : (s : Bytes) (at : ℕ) → get_or s at 0 ≡ 116 → boolean_end s at ≡ crlf_end s (at + 1)
unfolding boolean_end
bool-t s at h = rw h

-- f
pub bool-f : (s : Bytes) (at : ℕ) → get_or s at 0 ≡ 102 → boolean_end s at ≡ crlf_end s (at + 1)
unfolding boolean_end
bool-f s at h = rw h

-- anything else
pub bool-else : (s : Bytes) (at : ℕ) → ((get_or s at 0 ≡ 116) → ⊥) → ((get_or s at 0 ≡ 102) → ⊥) → boolean_end s at ≡ None
unfolding boolean_end
bool-else s at h k = rw (ne_eqb (get_or s at 0) 116 h, ne_eqb (get_or s at 0) 102 k)

-- n values
pub items-none : (d : ℕ) (s : Bytes) (n at : ℕ) → n ≡ 0 → items_end d s n at ≡ Some at
unfolding items_end iter
items-none d s n at h = rw h

-- a row whose first value is bad
pub items-bad : (d : ℕ) (s : Bytes) (n at : ℕ) → 0 < n → value_end d s at ≡ None → items_end d s n at ≡ None
unfolding items_end iter
items-bad d s zero at l h = absurd (omega arith)
items-bad d s (suc n) at l h = rw h

-- a row whose first value ends at e
pub items_more : (d : ℕ) (s : Bytes) (n at e : ℕ) → 0 < n → value_end d s at ≡ Some e → items_end d s n at ≡ items_end d s (n - 1) e
unfolding items_end iter
items_more d s zero at e l h = absurd (omega arith)
items_more d s (suc n) at e l h = let k : suc n - 1 ≡ n = omega arith in rw (h, k)

-- one value
pub end-zero : (d : ℕ) (s : Bytes) (at : ℕ) → d ≡ 0 → value_end d s at ≡ None
unfolding value_end
end-zero d s at h = rw h

-- a value is its beginning and the values inside it
pub end-head : (d : ℕ) (s : Bytes) (at : ℕ) (x : Option (ℕ × ℕ)) → ((d ≡ 0) → ⊥) → head_at s at ≡ x
    → value_end d s at ≡ head_then x (λ n e. items_end (d - 1) s n e)
unfolding value_end items_end
end-head zero s at x z h = absurd (z refl)
end-head (suc d) s at x z h = let j : suc d - 1 ≡ d = omega arith in rw (h, j)

-- a beginning is that of a null of RESP2's
pub head-null : (s : Bytes) (at : ℕ) → null_word_b s at ≡ true → head_at s at ≡ alone_of (one_end s (at + 2))
unfolding head_at
head-null s at h = rw h

-- or what the first byte's kind says
pub head-kind : (s : Bytes) (at : ℕ) → null_word_b s at ≡ false → head_at s at ≡ kind_head s at
unfolding head_at
head-kind s at h = rw h

-- which is what stands behind that byte
pub head-is : (s : Bytes) (at : ℕ) (k : Shape) → shape_of (kind_of (get_or s at 0)) ≡ k → kind_head s at ≡ body_head k s (at + 1)
unfolding kind_head
head-is s at k h = rw h

-- none past the end
pub kind-out : (s : Bytes) (at : ℕ) → length s ≤ at → kind_head s at ≡ None
unfolding kind_head kind_of body_head
kind-out s at h = rw (get_or-out s at h)

-- a null of RESP2's has a length or a count that is none
word-bad : (s : Bytes) (at : ℕ) → null_word_b s at ≡ true → kind_head s at ≡ None
unfolding kind_head kind_of body_head
word-bad s at w =
    by_test (eqb (get_or s at 0) 36)
    (λ t. rw (eqb-true (get_or s at 0) 36 t, blob-bad s (at + 1) (word-length s at w)))
    (λ t. rw (eqb-true (get_or s at 0) 42 (rw t at (word-says s at w).0), word-length s at w))

-- so that what the kind finds is all that there is
pub head-found : (s : Bytes) (at n e : ℕ) → kind_head s at ≡ Some (n, e) → head_at s at ≡ Some (n, e)
head-found s at n e h =
    by_test (null_word_b s at)
    (λ w. let b : None ≡ Some (n, e) = sym (word-bad s at w) ∙ h in absurd (let z : ◌≡◌ {A = ℕ} 0 1 = cc in omega arith))
    (λ w. head-kind s at w ∙ h)

-- and where it finds nothing, it may be such a null
pub head-else : (s : Bytes) (at : ℕ) → kind_head s at ≡ None → head_at s at ≡ null_head s at
unfolding head_at
head-else s at h = rw h

-- the ways through the code: such a null, or none
pub null-yes : (s : Bytes) (at : ℕ) → null_word_b s at ≡ true → null_head s at ≡ alone_of (one_end s (at + 2))
null-yes s at w = rw w

pub null-no : (s : Bytes) (at : ℕ) → null_word_b s at ≡ false → null_head s at ≡ None
null-no s at w = rw w

-- and no null there
head-out : (s : Bytes) (at : ℕ) → length s ≤ at → head_at s at ≡ None
head-out s at h = head-kind s at (word_out s at (omega arith)) ∙ kind-out s at h

-- a value past the end
end-out : (d : ℕ) (s : Bytes) (at : ℕ) → length s ≤ at → value_end d s at ≡ None
unfolding value_end
end-out zero s at h = refl
end-out (suc d) s at h = rw (head-out s at h)

-- what stands behind a first byte, to its end; `many n e` reads n values from e on
abbrev pub body_end : Shape → Bytes → (ℕ → ℕ → Option ℕ) → ℕ → Option ℕ
body_end k s many p = head_then (body_head k s p) many

-- with no values inside, the end is that of the beginning
pub alone-is : (d : ℕ) (s : Bytes) (x : Option ℕ) → head_then (alone_of x) (λ n e. items_end d s n e) ≡ x
unfolding items_end iter
alone-is d s (Some e) = refl
alone-is d s None = refl

-- behind a count, it is that of the values
pub count-is : (x : Option (ℕ × ℕ)) (f : ℕ → ℕ) (many : ℕ → ℕ → Option ℕ) → head_then (count_of x f) many ≡ num_then x (λ n e. many (f n) e)
count-is (Some (n, e)) f many = refl
count-is None f many = refl

-- as many values as the count says
pub count-all : (x : Option (ℕ × ℕ)) → count_of x (λ n. n) ≡ x
count-all (Some (n, e)) = refl
count-all None = refl

-- a value that is read begins in the list
pub end-in : (d : ℕ) (s : Bytes) (at e : ℕ) → value_end d s at ≡ Some e → at < length s
end-in d s at e h =
    by_test (ltb at (length s)) (λ t. ltb-true at (length s) t)
    (λ t. absurd (let x = end-out d s at (ltb-false at (length s) t) in let z : ◌≡◌ {A = ℕ} 0 1 = cc in omega arith))

-- exactly one value
pub value-long : (s : Bytes) → max_bytes < length s → is_value s ≡ false
unfolding is_value
value-long s h = rw (lt-leb (length s) max_bytes h)

-- within 16 MiB: exactly if the value ends there
pub value-ends : (s : Bytes) (x : Option ℕ) → length s ≤ max_bytes → value_end max_depth s 0 ≡ x → is_value s ≡ ends_at x (length s)
unfolding is_value
value-ends s x h e = rw (le-leb (length s) max_bytes h, e)
