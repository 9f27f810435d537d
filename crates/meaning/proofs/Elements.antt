-- What is asked of a value (resp3_element/specs/Meaning.antt), by meaning: each question has an answer for one kind alone, or for two. For `Readings` of
-- Meaning.antt. Assumes nothing.
use Rattle.std.specs.Prelude.{◌≡◌, refl, ◌↔◌, true, false, [], ◌∷◌, ℕ, ℤ, Some, None}
use Rattle.std.proofs.Common.{sym, ap, ◌∙◌, arith}
use Rattle.std.proofs.lemmas.Bool.{false≢true}
use Rattle.std.proofs.Math.Option as option
use Rattle.std.proofs.Math.Option.{Option, some, none-ne-some}
use Rattle.buffer.specs.Cases.{by_test}
use Rattle.buffer.specs.Same.{Bytes, same}
use Rattle.buffer.specs.SameLaws.{same-eq}
use Rattle.buffer.specs.Ascii.{ascii}
use Rattle.resp3.specs.declared.Kind.TheVariants.{BlobString}
use Rattle.resp3.specs.Value.{Spelling, Value, Values, blob_string, simple_string, simple_error, number, null_as, double, boolean, blob_error, verbatim_string}
use Rattle.resp3.specs.Value.{big_number, array, map, set, attribute, push, none, more}
use Rattle.resp3_element.specs.Meaning.{of_kind, is_error, is_null, integer_of, blob_of, array_of, push_of}
use Rattle.book.specs.Calls as calls
use Rattle.resolving.specs.Convert.{then_only_list, replies_of}
use Rattle.resolving.specs.Pushes.{keys_of, invalidating, is_invalidate, from_push, pushed}
use Rattle.meaning.specs.Meaning.{invalidation}

-- no integer is none
no-integer : {z : ℤ} {A : Type 0} → None ≡ Some z → A
no-integer e = absurd (let n : ◌≡◌ {A = ℕ} 0 1 = cc in omega arith)

-- elements of `*`
array-only : (v : Value) (vs : Values) → array_of v ≡ some vs → v ≡ array vs
array-only (blob_string xs) vs e = absurd (none-ne-some vs e)
array-only (simple_string xs) vs e = absurd (none-ne-some vs e)
array-only (simple_error xs) vs e = absurd (none-ne-some vs e)
array-only (number z) vs e = absurd (none-ne-some vs e)
array-only (null_as q) vs e = absurd (none-ne-some vs e)
array-only (double xs) vs e = absurd (none-ne-some vs e)
array-only (boolean b) vs e = absurd (none-ne-some vs e)
array-only (blob_error xs) vs e = absurd (none-ne-some vs e)
array-only (verbatim_string f xs) vs e = absurd (none-ne-some vs e)
array-only (big_number xs) vs e = absurd (none-ne-some vs e)
array-only (array us) vs e = let z : us ≡ vs = cc in ap array z
array-only (map ps) vs e = absurd (none-ne-some vs e)
array-only (set us) vs e = absurd (none-ne-some vs e)
array-only (attribute ps u) vs e = absurd (none-ne-some vs e)
array-only (push us) vs e = absurd (none-ne-some vs e)

pub array-means : (v : Value) (vs : Values) → (array_of v ≡ some vs) ↔ (v ≡ array vs)
array-means v vs = (array-only v vs, λ e. ap array_of e)

-- of `>`
push-only : (v : Value) (vs : Values) → push_of v ≡ some vs → v ≡ push vs
push-only (blob_string xs) vs e = absurd (none-ne-some vs e)
push-only (simple_string xs) vs e = absurd (none-ne-some vs e)
push-only (simple_error xs) vs e = absurd (none-ne-some vs e)
push-only (number z) vs e = absurd (none-ne-some vs e)
push-only (null_as q) vs e = absurd (none-ne-some vs e)
push-only (double xs) vs e = absurd (none-ne-some vs e)
push-only (boolean b) vs e = absurd (none-ne-some vs e)
push-only (blob_error xs) vs e = absurd (none-ne-some vs e)
push-only (verbatim_string f xs) vs e = absurd (none-ne-some vs e)
push-only (big_number xs) vs e = absurd (none-ne-some vs e)
push-only (array us) vs e = absurd (none-ne-some vs e)
push-only (map ps) vs e = absurd (none-ne-some vs e)
push-only (set us) vs e = absurd (none-ne-some vs e)
push-only (attribute ps u) vs e = absurd (none-ne-some vs e)
push-only (push us) vs e = let z : us ≡ vs = cc in ap push z

-- the integer of `:`
integer-only : (v : Value) (z : ℤ) → integer_of v ≡ Some z → v ≡ number z
integer-only (blob_string xs) i e = no-integer e
integer-only (simple_string xs) i e = no-integer e
integer-only (simple_error xs) i e = no-integer e
integer-only (number z) i e = let q : z ≡ i = cc in ap number q
integer-only (null_as q) i e = no-integer e
integer-only (double xs) i e = no-integer e
integer-only (boolean b) i e = no-integer e
integer-only (blob_error xs) i e = no-integer e
integer-only (verbatim_string f xs) i e = no-integer e
integer-only (big_number xs) i e = no-integer e
integer-only (array us) i e = no-integer e
integer-only (map ps) i e = no-integer e
integer-only (set us) i e = no-integer e
integer-only (attribute ps u) i e = no-integer e
integer-only (push us) i e = no-integer e

pub integer-means : (v : Value) (z : ℤ) → (integer_of v ≡ Some z) ↔ (v ≡ number z)
integer-means v z = (integer-only v z, λ e. ap integer_of e)

-- a null, in some spelling
pub null-only : (v : Value) → is_null v ≡ true → (q : Spelling) × (v ≡ null_as q)
null-only (blob_string xs) e = absurd (false≢true e)
null-only (simple_string xs) e = absurd (false≢true e)
null-only (simple_error xs) e = absurd (false≢true e)
null-only (number z) e = absurd (false≢true e)
null-only (null_as q) e = (q, refl)
null-only (double xs) e = absurd (false≢true e)
null-only (boolean b) e = absurd (false≢true e)
null-only (blob_error xs) e = absurd (false≢true e)
null-only (verbatim_string f xs) e = absurd (false≢true e)
null-only (big_number xs) e = absurd (false≢true e)
null-only (array us) e = absurd (false≢true e)
null-only (map ps) e = absurd (false≢true e)
null-only (set us) e = absurd (false≢true e)
null-only (attribute ps u) e = absurd (false≢true e)
null-only (push us) e = absurd (false≢true e)

-- the bytes of `$`
blob-only : (v : Value) → of_kind BlobString v ≡ true → v ≡ blob_string (blob_of v)
blob-only (blob_string xs) e = refl
blob-only (simple_string xs) e = absurd (false≢true e)
blob-only (simple_error xs) e = absurd (false≢true e)
blob-only (number z) e = absurd (false≢true e)
blob-only (null_as q) e = absurd (false≢true e)
blob-only (double xs) e = absurd (false≢true e)
blob-only (boolean b) e = absurd (false≢true e)
blob-only (blob_error xs) e = absurd (false≢true e)
blob-only (verbatim_string f xs) e = absurd (false≢true e)
blob-only (big_number xs) e = absurd (false≢true e)
blob-only (array us) e = absurd (false≢true e)
blob-only (map ps) e = absurd (false≢true e)
blob-only (set us) e = absurd (false≢true e)
blob-only (attribute ps u) e = absurd (false≢true e)
blob-only (push us) e = absurd (false≢true e)

-- what stands in front of a push that invalidates
invalidate-only : (v : Value) → is_invalidate v ≡ true → v ≡ blob_string (ascii "invalidate")
invalidate-only v e =
    by_test (of_kind BlobString v)
    (λ t. blob-only v t ∙ ap blob_string (same-eq (blob_of v) (ascii "invalidate") (rw t at e)))
    (λ t. absurd (false≢true (rw t at e)))

-- the keys among a push's elements
pub keys-mean : (vs : Values) (xs : Bytes) → (keys_of none ≡ []) × (keys_of (more (blob_string xs) vs) ≡ xs ∷ keys_of vs)
keys-mean vs xs = (refl, refl)

pub no-key-means : (v : Value) (vs : Values) → ((xs : Bytes) → v ≡ blob_string xs → ⊥) → keys_of (more v vs) ≡ keys_of vs
no-key-means v vs n = by_test (of_kind BlobString v) (λ t. absurd (n (blob_of v) (blob-only v t))) (λ t. rw t refl)

-- a server error: `-` or `!`
error-none : (v : Value) → ((xs : Bytes) → v ≡ simple_error xs → ⊥) → ((xs : Bytes) → v ≡ blob_error xs → ⊥) → is_error v ≡ false
error-none (blob_string xs) n m = refl
error-none (simple_string xs) n m = refl
error-none (simple_error xs) n m = absurd (n xs refl)
error-none (number z) n m = refl
error-none (null_as q) n m = refl
error-none (double xs) n m = refl
error-none (boolean b) n m = refl
error-none (blob_error xs) n m = absurd (m xs refl)
error-none (verbatim_string f xs) n m = refl
error-none (big_number xs) n m = refl
error-none (array us) n m = refl
error-none (map ps) n m = refl
error-none (set us) n m = refl
error-none (attribute ps u) n m = refl
error-none (push us) n m = refl

pub error-means : (v : Value) → (is_error v ≡ false) ↔ ((xs : Bytes) → (v ≡ simple_error xs → ⊥) × (v ≡ blob_error xs → ⊥))
error-means v = (
  λ e xs. (λ q. false≢true (sym e ∙ ap is_error q), λ q. false≢true (sym e ∙ ap is_error q)),
  λ w. error-none v (λ xs q. (w xs).0 q) (λ xs q. (w xs).1 q),
)

-- ---- the list of replies inside a transaction's own

inner-only : (v : Value) (vs : Values) → replies_of true v ≡ some vs → v ≡ array (more (array vs) none)
inner-only v vs e = go (array_of v) refl e
  where
    go : (o : Option Values) → array_of v ≡ o → then_only_list o ≡ some vs → v ≡ array (more (array vs) none)
    go option.none q e = absurd (none-ne-some vs e)
    go (some none) q e = absurd (none-ne-some vs e)
    go (some (more u none)) q e = array-only v _ q ∙ ap (λ (z : Value). array (more z none)) (array-only u vs e)
    go (some (more u (more w us))) q e = absurd (none-ne-some vs e)

pub inner-means : (v : Value) (vs : Values) → (replies_of true v ≡ some vs) ↔ (v ≡ array (more (array vs) none))
inner-means v vs = (inner-only v vs, λ q. ap (replies_of true) q)

-- ---- pushes

-- one with keys, and one that drops everything
pub keys-pushed-so : (ks vs : Values) → pushed (invalidation (array ks) vs) ≡ calls.push (keys_of ks)
unfolding pushed same
keys-pushed-so ks vs = refl

pub all-pushed-so : (q : Spelling) (vs : Values) → pushed (invalidation (null_as q) vs) ≡ calls.push_all
unfolding pushed same
all-pushed-so q vs = refl

-- any other
pub none-pushed-so : (v : Value) → ((ks vs : Values) → v ≡ invalidation (array ks) vs → ⊥)
    → ((q : Spelling) (vs : Values) → v ≡ invalidation (null_as q) vs → ⊥)
    → pushed v ≡ calls.push []
unfolding pushed
none-pushed-so v keys all = go (push_of v) refl
  where
    -- the second element, behind `invalidate`
    second : (w : Value) (us : Values) → v ≡ invalidation w us → (o : Option Values) → array_of w ≡ o → invalidating o (is_null w) ≡ calls.push []
    second w us q (some ks) e = absurd (keys ks us (q ∙ ap (λ (z : Value). invalidation z us) (array-only w ks e)))
    second w us q option.none e =
        by_test (is_null w)
        (λ t. let n = null-only w t in absurd (all n.0 us (q ∙ ap (λ (z : Value). invalidation z us) n.1)))
        (λ t. rw t refl)

    go : (o : Option Values) → push_of v ≡ o → from_push o ≡ calls.push []
    go option.none q = refl
    go (some none) q = refl
    go (some (more u none)) q = by_test (is_invalidate u) (λ t. rw t refl) (λ t. rw t refl)
    go (some (more u (more w us))) q =
        by_test (is_invalidate u)
        (λ t. rw t (second w us (push-only v _ q ∙ ap (λ (z : Value). push (more z (more w us))) (invalidate-only u t)) (array_of w) refl))
        (λ t. rw t refl)
