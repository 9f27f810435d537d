-- What is read of a value's bytes is what the value is: kind, integer, blob. Assumes nothing.
use Rattle.std.specs.Prelude.{◌≡◌, refl, true, false, [], ◌∷◌, ◌++◌, ℕ, suc, ◌-◌, ◌≤◌, eqb, leb, length, get_or, drop, ℤ, pos, negsuc, Option, Some, None}
use Rattle.std.proofs.Common.{sym, ap, ◌∙◌, arith, length-append, length-drop, take_at, eqb-true, eq-eqb, ne_eqb, le-leb, leb-true}
use Rattle.std.proofs.lemmas.Bool.{false≢true}
use Rattle.std.proofs.Math.Nat.{add-sub_cancel_left}
use Rattle.buffer.specs.Same.{Bytes}
use Rattle.buffer.specs.Cases.{by_test}
use Rattle.decimal.specs.Digits.{digits}
use Rattle.decimal.specs.NumLaw.{head-ge}
use Rattle.resp3.specs.Kinds.{byte_of, kind_of}
use Rattle.resp3.specs.KindLaws.{kind-byte}
use Rattle.resp3.specs.Value.{underscore, blob_null, array_null, Value, blob_string, simple_string, simple_error, number, null_as, double, boolean, blob_error}
use Rattle.resp3.specs.Value.{verbatim_string, big_number, array, map, set, attribute, push, Fits64, crlf, counted, enc, encode, Means}
use Rattle.resp3.specs.declared.Kind.{Kind}
use Rattle.resp3.specs.declared.Kind.TheVariants.{BlobString, SimpleError, BlobError, Number, Null}
use Rattle.resp3.specs.Ends.{length_at, null_byte_b, null_word_b}
use Rattle.resp3.specs.Decode.{num_case}
use Rattle.resp3.specs.Nulls.{word-other, word-says, word-length, word_count, word-is}
use Rattle.resp3.specs.Paths.{length-bounds}
use Rattle.resp3.specs.Reads.{num-reads, length-reads}
use Rattle.std.specs.declared.ops.Range.{Range}
use Rattle.resp3_element.specs.Meaning.{value_kind, of_kind, is_error, is_null, integer_of, blob_of}
use Rattle.resp3_element.specs.Places.{kind_at, null_at, error_at, integer_at, no_range, range_of, range_at, in_range}

-- a value's bytes are those of its encoding
pub bytes-are : (s : Bytes) (v : Value) → Means s v → s ≡ enc v []
unfolding encode
bytes-are s v m = m.is

-- a value begins with its kind's byte, and not as a null of RESP2's; or it is such a null
data Begins (s : Bytes) (v : Value) : Type 0 where
  own : null_word_b s 0 ≡ false → get_or s 0 0 ≡ byte_of (value_kind v) → Begins s v
  old : null_word_b s 0 ≡ true → value_kind v ≡ Null → Begins s v

-- a kind whose byte begins none of RESP2's nulls
by_byte : (s : Bytes) (v : Value) (q : Bytes) → null_byte_b (byte_of (value_kind v)) ≡ false → s ≡ byte_of (value_kind v) ∷ q → Begins s v
by_byte s v q n h =
    let f : get_or s 0 0 ≡ byte_of (value_kind v) = ap (λ (l : Bytes). get_or l 0 0) h in
    own (word-other s 0 (ap null_byte_b f ∙ n)) f

-- a kind with a length or a count, which has no sign
by_count : (s : Bytes) (v : Value) (n : ℕ) (q : Bytes) → s ≡ byte_of (value_kind v) ∷ counted n q → Begins s v
by_count s v n q h = own (word_count s 0 (byte_of (value_kind v)) n q h) (ap (λ (l : Bytes). get_or l 0 0) h)

-- so begins every value
begins : (s : Bytes) (v : Value) → s ≡ enc v [] → Begins s v
begins s (blob_string xs) h = by_count s (blob_string xs) _ _ h
begins s (simple_string xs) h = by_byte s (simple_string xs) _ refl h
begins s (simple_error xs) h = by_byte s (simple_error xs) _ refl h
begins s (number z) h = by_byte s (number z) _ refl h
begins s (null_as underscore) h = by_byte s (null_as underscore) _ refl h
begins s (null_as blob_null) h = old (word-is s 0 _ [] refl h) refl
begins s (null_as array_null) h = old (word-is s 0 _ [] refl h) refl
begins s (double xs) h = by_byte s (double xs) _ refl h
begins s (boolean b) h = by_byte s (boolean b) _ refl h
begins s (blob_error xs) h = by_byte s (blob_error xs) _ refl h
begins s (verbatim_string f xs) h = by_byte s (verbatim_string f xs) _ refl h
begins s (big_number xs) h = by_byte s (big_number xs) _ refl h
begins s (array vs) h = by_count s (array vs) _ _ h
begins s (map ps) h = by_byte s (map ps) _ refl h
begins s (set vs) h = by_byte s (set vs) _ refl h
begins s (attribute ps v) h = by_byte s (attribute ps v) _ refl h
begins s (push vs) h = by_byte s (push vs) _ refl h

-- by how the bytes of a value begin
pub by-begin : {X : Type 0} (s : Bytes) (v : Value) → Means s v
    → (null_word_b s 0 ≡ false → get_or s 0 0 ≡ byte_of (value_kind v) → X) → (null_word_b s 0 ≡ true → value_kind v ≡ Null → X) → X
by-begin {X = X} s v m f g = go (begins s v (bytes-are s v m))
  where
    go : Begins s v → X
    go (own w b) = f w b
    go (old w n) = g w n

-- the ways through the code: a null of RESP2's, or not; `_`, or not
pub kind-old : (s : Bytes) → null_word_b s 0 ≡ true → kind_at s ≡ Null
kind-old s w = rw w

pub kind-own : (s : Bytes) → null_word_b s 0 ≡ false → kind_at s ≡ kind_of (get_or s 0 0)
kind-own s w = rw w

pub null-yes : (s : Bytes) → get_or s 0 0 ≡ 95 → null_at s ≡ true
null-yes s e = rw e

pub null-else : (s : Bytes) → ((get_or s 0 0 ≡ 95) → ⊥) → null_at s ≡ null_word_b s 0
null-else s e = rw (ne_eqb (get_or s 0 0) 95 e)

-- the kind is read off the beginning
pub kind-law : (s : Bytes) (v : Value) → Means s v → kind_at s ≡ value_kind v
kind-law s v m = by-begin s v m (λ w b. rw w (ap kind_of b ∙ kind-byte (value_kind v))) (λ w n. rw w (sym n))

-- so is whether it is a null
pub null-law : (s : Bytes) (v : Value) → Means s v → null_at s ≡ is_null v
null-law s v m =
    by-begin s v m
    (λ w b. rw (w, b) (by_test (of_kind Null v) (λ t. rw t) (λ t. rw t)))
    (λ w n. rw (w, n) (by_test (eqb (get_or s 0 0) 95) (λ t. rw t) (λ t. rw t)))

-- ---- errors

-- a byte that begins none of RESP2's nulls is not their first
not-word : (s : Bytes) (b : ℕ) → null_byte_b b ≡ false → null_word_b s 0 ≡ true → eqb (get_or s 0 0) b ≡ false
not-word s b n w =
    by_test (eqb (get_or s 0 0) b)
    (λ t. absurd (false≢true (sym (ap null_byte_b (eqb-true (get_or s 0 0) b t) ∙ n) ∙ (word-says s 0 w).0)))
    (λ t. t)

-- for other kinds than these nulls', a test of the first byte is one of the kind
pub first-is : (s : Bytes) (v : Value) (k : Kind) (b : ℕ) → null_byte_b (byte_of k) ≡ false → eqb (byte_of Null) (byte_of k) ≡ false → Means s v
    → b ≡ get_or s 0 0
    → eqb b (byte_of k) ≡ of_kind k v
first-is s v k b n o m h =
    ap (λ (x : ℕ). eqb x (byte_of k)) h
    ∙ by-begin s v m (λ w e. ap (λ (x : ℕ). eqb x (byte_of k)) e) (λ w e. not-word s (byte_of k) n w ∙ sym (ap (λ (j : Kind). eqb (byte_of j) (byte_of k)) e ∙ o))

-- a simple error
pub error-yes : (s : Bytes) (v : Value) (b : ℕ) → Means s v → b ≡ get_or s 0 0 → b ≡ byte_of SimpleError → is_error v ≡ true
error-yes s v b m h e = rw (← first-is s v SimpleError b refl refl m h, eq-eqb b (byte_of SimpleError) e)

-- a blob error, or none
pub error-else : (s : Bytes) (v : Value) (b : ℕ) → Means s v → b ≡ get_or s 0 0 → ((b ≡ byte_of SimpleError) → ⊥) → eqb b (byte_of BlobError) ≡ is_error v
error-else s v b m h e = rw (← first-is s v SimpleError b refl refl m h, ne_eqb b (byte_of SimpleError) e) (first-is s v BlobError b refl refl m h)

-- the same of any bytes
pub error-at-yes : (s : Bytes) (b : ℕ) → b ≡ get_or s 0 0 → b ≡ byte_of SimpleError → true ≡ error_at s
error-at-yes s b h e = rw (← h, eq-eqb b 45 e)

pub error-at-else : (s : Bytes) (b : ℕ) → b ≡ get_or s 0 0 → ((b ≡ byte_of SimpleError) → ⊥) → eqb b (byte_of BlobError) ≡ error_at s
error-at-else s b h e = rw (← h, ne_eqb b 45 e)

-- ---- integers

-- a value of another kind
integer-not : (s : Bytes) (v : Value) → Means s v → of_kind Number v ≡ false → integer_at s ≡ None
unfolding integer_at
integer-not s v m e = rw (first-is s v Number _ refl refl m refl, e)

-- an integer is found, with its sign
integer-is : (s : Bytes) (z : ℤ) → Fits64 z → s ≡ enc (number z) [] → integer_at s ≡ Some z
unfolding integer_at
integer-is s (pos n) l h =
    let f : get_or s 0 0 ≡ 58 = ap (λ (x : Bytes). get_or x 0 0) h in
    let k = num-reads 9223372036854775807 s 1 n [] (omega arith) (ap (drop 1) h) in
    let g = head-ge n (crlf []) in
    let m : get_or s 1 0 ≡ get_or (digits n ++ crlf []) 0 0 = ap (λ (x : Bytes). get_or x 1 0) h in
    rw (f, ne_eqb (get_or s 1 0) 45 (λ y. omega arith), k.is)
integer-is s (negsuc n) l h =
    let f : get_or s 0 0 ≡ 58 = ap (λ (x : Bytes). get_or x 0 0) h in
    let m : get_or s 1 0 ≡ 45 = ap (λ (x : Bytes). get_or x 1 0) h in
    let k = num-reads 9223372036854775808 s 2 (suc n) [] (omega arith) (ap (drop 2) h) in
    let j : suc n - 1 ≡ n = omega arith in
    rw (f, m, k.is, ne_eqb (suc n) 0 (λ y. omega arith), j)

-- what is found of an integer
pub integer-law : (s : Bytes) (v : Value) → Means s v → integer_at s ≡ integer_of v
integer-law s (blob_string xs) m = integer-not s _ m refl
integer-law s (simple_string xs) m = integer-not s _ m refl
integer-law s (simple_error xs) m = integer-not s _ m refl
integer-law s (number z) m = integer-is s z m.ok (bytes-are s (number z) m)
integer-law s (null_as q) m = integer-not s _ m refl
integer-law s (double xs) m = integer-not s _ m refl
integer-law s (boolean b) m = integer-not s _ m refl
integer-law s (blob_error xs) m = integer-not s _ m refl
integer-law s (verbatim_string f xs) m = integer-not s _ m refl
integer-law s (big_number xs) m = integer-not s _ m refl
integer-law s (array vs) m = integer-not s _ m refl
integer-law s (map ps) m = integer-not s _ m refl
integer-law s (set vs) m = integer-not s _ m refl
integer-law s (attribute ps v) m = integer-not s _ m refl
integer-law s (push vs) m = integer-not s _ m refl

-- ---- blobs

-- where a blob's bytes stand is in the slice
pub record InRange (s : Bytes) (p : Range ℕ) : Type 0 where
  pub order : p.start ≤ p.end
  pub within : p.end ≤ length s

-- no bytes lie in any slice
no-range : (s : Bytes) → InRange s no_range
no-range s = record { order = omega arith; within = omega arith }

-- bytes that are there lie in it
range-of-in : (s : Bytes) (n e : ℕ) → e ≤ length s → InRange s (range_of s n e)
unfolding range_of
range-of-in s n e l =
    by_test (leb n (length s - e))
    (λ t. let k = leb-true n (length s - e) t in rw t (record { order = omega arith; within = omega arith }))
    (λ t. rw t (no-range s))

-- what the code finds does
range-there : (s : Bytes) → InRange s (range_at s)
unfolding range_at
range-there s = by_test (eqb (get_or s 0 0) 36) (λ t. rw t (go (length_at s 1) refl)) (λ t. rw t (no-range s))
  where
    go : (x : Option (ℕ × ℕ)) → length_at s 1 ≡ x → InRange s (num_case x (λ n e. range_of s n e) no_range)
    go (Some (n, e)) h = range-of-in s n e (length-bounds s 1 n e h).1
    go None h = no-range s

-- so does what it answers
pub range-in : (s : Bytes) (p : Range ℕ) → p ≡ range_at s → InRange s p
range-in s p e = rw e (range-there s)

-- a value of another kind has none
blob-not : (s : Bytes) (v : Value) → Means s v → of_kind BlobString v ≡ false → in_range s (range_at s) ≡ []
unfolding range_at
blob-not s v m e = by-begin s v m (λ w b. rw (b, e)) (λ w n. rw (word-length s 0 w) (by_test (eqb (get_or s 0 0) 36) (λ t. rw t) (λ t. rw t)))

-- a blob string's are found
blob-is : (s xs : Bytes) → s ≡ enc (blob_string xs) [] → in_range s (range_at s) ≡ xs
unfolding range_at range_of length_at
blob-is s xs h =
    let n : ℕ = length xs in
    let f : get_or s 0 0 ≡ 36 = ap (λ (x : Bytes). get_or x 0 0) h in
    let k = length-reads s 1 n (xs ++ crlf []) (simp length-append (omega arith)) (ap (drop 1) h) in
    let l : n ≤ length s - k.e = omega (arith, simp (length-append, length-drop) at (ap length k.rest)) in
    rw (f, k.is, le-leb n (length s - k.e) l, add-sub_cancel_left k.e n, k.rest) (take_at xs (crlf []) n refl)

-- what is found of a blob
blob-there : (s : Bytes) (v : Value) → Means s v → in_range s (range_at s) ≡ blob_of v
blob-there s (blob_string xs) m = blob-is s xs (bytes-are s (blob_string xs) m)
blob-there s (simple_string xs) m = blob-not s _ m refl
blob-there s (simple_error xs) m = blob-not s _ m refl
blob-there s (number z) m = blob-not s _ m refl
blob-there s (null_as q) m = blob-not s _ m refl
blob-there s (double xs) m = blob-not s _ m refl
blob-there s (boolean b) m = blob-not s _ m refl
blob-there s (blob_error xs) m = blob-not s _ m refl
blob-there s (verbatim_string f xs) m = blob-not s _ m refl
blob-there s (big_number xs) m = blob-not s _ m refl
blob-there s (array vs) m = blob-not s _ m refl
blob-there s (map ps) m = blob-not s _ m refl
blob-there s (set vs) m = blob-not s _ m refl
blob-there s (attribute ps v) m = blob-not s _ m refl
blob-there s (push vs) m = blob-not s _ m refl

-- and answered
pub blob-law : (s : Bytes) (p : Range ℕ) (v : Value) → p ≡ range_at s → Means s v → in_range s p ≡ blob_of v
blob-law s p v e m = rw e (blob-there s v m)
