-- What is written is read: where the bytes of a valid value stand, the reader ends behind them and finds the value. Assumes nothing.
use Rattle.std.specs.Prelude.{◌≡◌, Bool, true, false, cond, [], ◌∷◌, ◌++◌, length, get_or, take, drop, ℤ, pos, negsuc, Option, Some}
use Rattle.std.proofs.Math.Path.{refl}
use Rattle.std.proofs.Common.{sym, ap, ap₂, ◌∙◌, append_assoc, arith, length-append, take_at, drop_at, get_or-drop, ne_eqb}
use Prim.Native.Nat.{ℕ, zero, suc, ◌+◌, ◌-◌, ◌≤◌}
use Rattle.std.proofs.lemmas.List.{get_or_at}
use Rattle.buffer.specs.Same.{Bytes}
use Rattle.decimal.specs.Digits.{digits}
use Rattle.decimal.specs.Read.{num_def}
use Rattle.decimal.specs.ReadLaws.{crlf-in}
use Rattle.decimal.specs.NumLaw.{crlf-law, head-ge}
use Rattle.buffer.specs.Places.{after, first, get_or-drop0}
use Rattle.resp3.specs.declared.Kind.{Kind}
use Rattle.resp3.specs.declared.Kind.TheVariants.{BlobString, SimpleString, SimpleError, Number, Null, Double, Boolean, BlobError}
use Rattle.resp3.specs.declared.Kind.TheVariants.{VerbatimString, BigNumber, Array, Map, Set, Attribute, Push}
use Rattle.resp3.specs.declared.Shape.TheVariants.{List as ListS, Pairs as PairsS, PairsAndValue}
use Rattle.resp3.specs.Kinds.{byte_of, shape_of, kind_of}
use Rattle.resp3.specs.KindLaws.{kind-byte}
use Rattle.resp3.specs.Value.{Spelling, underscore, blob_null, array_null, Value, Values, Pairs, blob_string, simple_string, simple_error, number, null_as}
use Rattle.resp3.specs.Value.{double, boolean, blob_error, verbatim_string, big_number, array, map, set, attribute, push, none, more, count, count_pairs}
use Rattle.resp3.specs.Value.{below, deepest, deepest_pairs, depth, plain_b, one_line, Fits64, Valid, Valids, ValidPairs, crlf, counted, framed, integer}
use Rattle.resp3.specs.Value.{enc, encs, enc_pairs}
use Rattle.resp3.specs.Ends.{length_at, crlf_end, plain, line_end, blob_end, verbatim_end, number_end, boolean_end, count_of, body_head, head_at}
use Rattle.resp3.specs.Ends.{null_byte_b, null_word_b, kind_head, head_then, value_end, items_end}
use Rattle.resp3.specs.Reads.{num-reads, length-reads}
use Rattle.resp3.specs.Nulls as nulls
use Rattle.resp3.specs.Paths as paths
use Rattle.resp3.specs.Rows.{room, room_pairs, head_of, flat, flat-enc, flat-count, flat-valid, flat-deep, pair_up, skip, pairs-flat, skip-flat}
use Rattle.resp3.specs.Decode.{bytes_at, line_at, integer_at, flag_at, values_at, pairs_at, attribute_at, body_of, spelling_of, iter_of, value_of, values_of}

-- x ended at some e, where r follows, and y found a
pub record Got {A : Type 0} (s r : Bytes) (a : A) (x : Option ℕ) (y : A) : Type 0 where
  pub e : ℕ
  pub is : x ≡ Some e
  pub rest : drop e s ≡ r
  pub within : e ≤ length s
  pub found : y ≡ a

-- the same end, and what is made of what was found
made : {A B : Type 0} {s r : Bytes} {a : A} {x w : Option ℕ} {y : A} (f : A → B) → w ≡ x → Got s r a x y → Got s r (f a) w (f y)
made f p z = record { e = z.e; is = p ∙ z.is; rest = z.rest; within = z.within; found = ap f z.found }

-- the same, found and meant in other words
also : {A : Type 0} {s r : Bytes} {a b : A} {x : Option ℕ} {y w : A} → a ≡ b → w ≡ y → Got s r a x y → Got s r b x w
also p q z = record { e = z.e; is = z.is; rest = z.rest; within = z.within; found = q ∙ z.found ∙ p }

-- ---- what stands behind a first byte

-- CR LF
crlf-got : {A : Type 0} (s : Bytes) (p : ℕ) (r : Bytes) (a : A) → drop p s ≡ crlf r → Got s r a (crlf_end s p) a
crlf-got s p r a h =
    let c = crlf-law s p r h in
    let i = crlf-in s p c in
    record { e = p + 2; is = paths.crlf-yes s p c; rest = after s p (13 ∷ 10 ∷ []) r h; within = omega arith; found = refl }

-- bytes behind their length
blob-got : (s : Bytes) (p : ℕ) (xs r : Bytes) → drop p s ≡ framed xs r → Got s r xs (blob_end s p) (bytes_at s p)
unfolding length_at bytes_at
blob-got s p xs r h =
    let z = length-reads s p (length xs) (xs ++ crlf r) (simp length-append (omega arith)) h in
    also refl (rw (z.is, z.rest) (take_at xs (crlf r) (length xs) refl))
    (made (λ (x : Bytes). x) (paths.blob-val s p _ _ z.is) (crlf-got s (z.e + length xs) r xs (after s z.e xs (crlf r) z.rest)))

-- a line's body is all of the plain bytes before its CR LF
plain-run : (xs r : Bytes) → one_line xs ≡ true → plain (xs ++ crlf r) ≡ length xs
unfolding plain plain_b one_line
plain-run [] r h = refl
plain-run (x ∷ xs) r h = go (plain_b x) refl (λ k. plain-run xs r k)
  where
    go : (b : Bool) → plain_b x ≡ b → (one_line xs ≡ true → plain (xs ++ crlf r) ≡ length xs) → plain (x ∷ (xs ++ crlf r)) ≡ suc (length xs)
    go true e ih = rw (e, plain) (ap suc (ih (rw (e, one_line) at h)))
    go false e ih = absurd (let k = rw (e, one_line) at h in let z : ◌≡◌ {A = ℕ} 0 1 = cc in omega arith)

-- a line
line-got : (s : Bytes) (p : ℕ) (xs r : Bytes) → one_line xs ≡ true → drop p s ≡ xs ++ crlf r → Got s r xs (line_end s p) (line_at s p)
unfolding line_at
line-got s p xs r k h =
    let n : plain (drop p s) ≡ length xs = ap plain h ∙ plain-run xs r k in
    also refl (rw (n, h) (take_at xs (crlf r) (length xs) refl))
    (made (λ (x : Bytes). x) (paths.line-is s p (p + length xs) (ap (λ (i : ℕ). p + i) n)) (crlf-got s (p + length xs) r xs (after s p xs (crlf r) h)))

-- an integer
number-got : (s : Bytes) (p : ℕ) (z : ℤ) (r : Bytes) → Fits64 z → drop p s ≡ integer z ++ crlf r → Got s r z (number_end s p) (integer_at s p)
unfolding integer_at
number-got s p (pos n) r l h =
    let k = num-reads 9223372036854775807 s p n r (omega arith) h in
    let g = head-ge n (crlf r) in
    let f : get_or s p 0 ≡ get_or (digits n ++ crlf r) 0 0 = get_or-drop0 s p ∙ ap (λ (z : Bytes). get_or z 0 0) h in
    let m : (get_or s p 0 ≡ 45) → ⊥ = λ z. omega arith in
    record { e = k.e; is = paths.int-pos s p _ m k.is; rest = k.rest; within = k.within; found = rw (ne_eqb (get_or s p 0) 45 m, k.is) }
number-got s p (negsuc n) r l h =
    let k = num-reads 9223372036854775808 s (p + 1) (suc n) r (omega arith) (after s p (45 ∷ []) (digits (suc n) ++ crlf r) h) in
    let m = first s p 45 _ h in
    let j : suc n - 1 ≡ n = omega arith in
    record {
      e = k.e;
      is = paths.int-neg s p _ m k.is ∙ rw (ne_eqb (suc n) 0 (λ z. omega arith));
      rest = k.rest;
      within = k.within;
      found = rw (m, k.is, j);
    }

-- t or f
flag-got : (s : Bytes) (p : ℕ) (b : Bool) (r : Bytes) → drop p s ≡ cond b 116 102 ∷ crlf r → Got s r b (boolean_end s p) (flag_at s p)
unfolding flag_at
flag-got s p true r h =
    let f = first s p 116 _ h in
    also refl (rw f) (made (λ (x : Bool). x) (paths.bool-t s p f) (crlf-got s (p + 1) r true (after s p (116 ∷ []) (crlf r) h)))
flag-got s p false r h =
    let f = first s p 102 _ h in
    also refl (rw f) (made (λ (x : Bool). x) (paths.bool-f s p f) (crlf-got s (p + 1) r false (after s p (102 ∷ []) (crlf r) h)))

-- the byte behind the front of a piece
byte : (s : Bytes) (e n : ℕ) (f : Bytes) (x : ℕ) (l : Bytes) → length f ≡ n → drop e s ≡ f ++ (x ∷ l) → get_or s (e + n) 0 ≡ x
byte s e n f x l k h = sym (get_or-drop e s n 0) ∙ ap (λ (z : Bytes). get_or z n 0) h ∙ get_or_at f x l 0 n k

-- a byte in the middle goes to the front
snoc : (f xs : Bytes) → (f ++ (58 ∷ [])) ++ xs ≡ f ++ (58 ∷ xs)
snoc f xs = append_assoc f (58 ∷ []) xs

-- a format, a colon, a text
verbatim-got : (s : Bytes) (p : ℕ) (f xs r : Bytes) → length f ≡ 3 → drop p s ≡ framed (f ++ (58 ∷ xs)) r
    → Got s r (verbatim_string f xs) (verbatim_end s p) (verbatim_string (take 3 (bytes_at s p)) (drop 4 (bytes_at s p)))
unfolding length_at
verbatim-got s p f xs r k h =
    let b : Bytes = f ++ (58 ∷ xs) in
    let z = length-reads s p (length b) (b ++ crlf r) (simp length-append (omega arith)) h in
    let c = byte s z.e 3 f 58 (xs ++ crlf r) k (z.rest ∙ simp append_assoc) in
    let g = blob-got s p b r h in
    let l : 4 ≤ length b = simp length-append (omega arith) in
    also
    (ap₂ verbatim_string (take_at f (58 ∷ xs) 3 k) (rw (← snoc f xs) (drop_at (f ++ (58 ∷ [])) xs 4 (simp length-append (omega arith)))))
    refl
    (made (λ (x : Bytes). verbatim_string (take 3 x) (drop 4 x)) (paths.verb-val s p _ _ z.is l c ∙ sym (paths.blob-val s p _ _ z.is)) g)

-- ---- rows of values

-- the law for one value that nests at most d deep
OneLaw : ℕ → Bytes → Type 0
OneLaw d s = (v : Value) → Valid v → depth v ≤ d → (at : ℕ) (r : Bytes) → drop at s ≡ enc v r → Got s r v (value_end d s at) (value_of d s at)

-- one value more in front of a row
one_more : (d : ℕ) (s : Bytes) (n at e : ℕ) (v : Value) → value_end d s at ≡ Some e → value_of d s at ≡ v
    → values_of d s (suc n) at ≡ more v (values_of d s n e)
unfolding values_of iter_of
one_more d s n at e v h g = rw (g, h)

-- a row, by the law for one
items-got : (d : ℕ) (s : Bytes) → OneLaw d s → (vs : Values) → Valids vs → deepest vs ≤ d → (at : ℕ) (r : Bytes) → at ≤ length s → drop at s ≡ encs vs r
    → Got s r vs (items_end d s (count vs) at) (values_of d s (count vs) at)
unfolding OneLaw values_of iter_of
items-got d s one none ok l at r i h = record { e = at; is = paths.items-none d s 0 at refl; rest = h; within = i; found = refl }
items-got d s one (more v vs) ok l at r i h =
    let z = one v ok.0 (omega arith) at (encs vs r) h in
    let k : suc (count vs) - 1 ≡ count vs = omega arith in
    also refl (one_more d s (count vs) at z.e v z.is z.found)
    (made (more v) (paths.items_more d s (suc (count vs)) at z.e (omega arith) z.is ∙ ap (λ (n : ℕ). items_end d s n z.e) k)
    (items-got d s one vs ok.1 (omega arith) z.e r z.within z.rest))

-- behind a count n the end is that of f n values
counts : (s : Bytes) (p : ℕ) (f : ℕ → ℕ) (d : ℕ) {n e : ℕ} → num_def (length s) s p ≡ Some (n, e)
    → head_then (count_of (length_at s p) f) (λ m q. items_end d s m q) ≡ items_end d s (f n) e
unfolding length_at
counts s p f d h = paths.count-is (length_at s p) f (λ m q. items_end d s m q) ∙ rw h

module _ (d : ℕ) (s : Bytes) (one : OneLaw d s) (p : ℕ) (r : Bytes) where
  -- a row behind its count
  list-got : (vs : Values) → Valids vs → deepest vs ≤ d → drop p s ≡ counted (count vs) (encs vs r)
      → Got s r vs (paths.body_end ListS s (λ n e. items_end d s n e) p) (values_at s (λ n e. values_of d s n e) p)
  unfolding length_at values_at body_head
  list-got vs ok l h =
      let z = length-reads s p (count vs) (encs vs r) (omega (arith, room vs r)) h in
      also refl (rw z.is) (made (λ (x : Values). x) (counts s p (λ n. n) d z.is) (items-got d s one vs ok l z.e r z.within z.rest))

  -- pairs, and then m values
  row-got : (ps : Pairs) (vs : Values) (m e : ℕ) → ValidPairs ps → Valids vs → deepest_pairs ps ≤ d → deepest vs ≤ d
      → m ≡ count_pairs ps + count_pairs ps + count vs → e ≤ length s → drop e s ≡ enc_pairs ps (encs vs r)
      → Got s r (flat ps vs) (items_end d s m e) (values_of d s m e)
  row-got ps vs m e ok vk l k n i h =
      let c : m ≡ count (flat ps vs) = n ∙ sym (flat-count ps vs) in
      rw c (items-got d s one (flat ps vs) (flat-valid ps vs ok vk) (flat-deep ps vs d l k) e r i (h ∙ sym (flat-enc ps vs r)))

  -- pairs behind their count
  map-got : (ps : Pairs) → ValidPairs ps → deepest_pairs ps ≤ d → drop p s ≡ counted (count_pairs ps) (enc_pairs ps r)
      → Got s r ps (paths.body_end PairsS s (λ n e. items_end d s n e) p) (pairs_at s (λ n e. values_of d s n e) p)
  unfolding length_at pairs_at body_head
  map-got ps ok l h =
      let n : ℕ = count_pairs ps in
      let z = length-reads s p n (enc_pairs ps r) (omega (arith, room_pairs ps r)) h in
      also (pairs-flat ps none) (rw z.is)
      (made (pair_up n) (counts s p (λ n. n + n) d z.is) (row-got ps none (n + n) z.e ok tt l (omega arith) (omega arith) z.within z.rest))

  -- pairs behind their count, and a value after them
  attribute-got : (ps : Pairs) (v : Value) → ValidPairs ps → Valid v → deepest_pairs ps ≤ d → depth v ≤ d
      → drop p s ≡ counted (count_pairs ps) (enc_pairs ps (enc v r))
      → Got s r (attribute ps v) (paths.body_end PairsAndValue s (λ n e. items_end d s n e) p) (attribute_at s (λ n e. values_of d s n e) p)
  unfolding length_at attribute_at body_head
  attribute-got ps v ok vk l k h =
      let n : ℕ = count_pairs ps in
      let z = length-reads s p n (enc_pairs ps (enc v r)) (omega (arith, room_pairs ps (enc v r))) h in
      also (ap₂ attribute (pairs-flat ps (more v none)) (ap head_of (skip-flat ps (more v none)))) (rw z.is)
      (made (λ (ws : Values). attribute (pair_up n ws) (head_of (skip n ws))) (counts s p (λ n. n + n + 1) d z.is)
      (row-got ps (more v none) (n + n + 1) z.e ok (vk, tt) l (omega arith) (omega arith) z.within z.rest))

-- ---- one value

-- what is found behind the first byte of the kind k is what is found of the value
abbrev ByKind : ℕ → Bytes → ℕ → Bytes → Kind → Value → Type 0
ByKind d s at r k v =
    Got s r v (paths.body_end (shape_of k) s (λ n e. items_end d s n e) (at + 1)) (body_of k s (λ n e. values_of d s n e) (at + 1))
    → Got s r v (value_end (suc d) s at) (value_of (suc d) s at)

-- where no null of RESP2's begins, a value's first byte says its kind, and what is behind it is read by that
by_kind : (d : ℕ) (s : Bytes) (at : ℕ) (r : Bytes) (k : Kind) (q : Bytes) (v : Value) → null_word_b s at ≡ false → drop at s ≡ byte_of k ∷ q
    → ByKind d s at r k v
unfolding value_end head_at kind_head items_end value_of values_of
by_kind d s at r k q v w h z =
    let f : kind_of (get_or s at 0) ≡ k = ap kind_of (first s at (byte_of k) q h) ∙ kind-byte k in
    rw (w, f) z

-- a kind whose byte begins none of them
at-kind : (d : ℕ) (s : Bytes) (at : ℕ) (r : Bytes) (k : Kind) (q : Bytes) (v : Value) → null_byte_b (byte_of k) ≡ false → drop at s ≡ byte_of k ∷ q
    → ByKind d s at r k v
at-kind d s at r k q v o h z = by_kind d s at r k q v (nulls.word-other s at (ap null_byte_b (first s at (byte_of k) q h) ∙ o)) h z

-- a kind with a length or a count
at_count : (d : ℕ) (s : Bytes) (at : ℕ) (r : Bytes) (k : Kind) (n : ℕ) (q : Bytes) (v : Value) → drop at s ≡ byte_of k ∷ counted n q
    → ByKind d s at r k v
at_count d s at r k n q v h z = by_kind d s at r k (counted n q) v (nulls.word_count s at (byte_of k) n q h) h z

-- a null of RESP2's is read, in its spelling
null_got : (d : ℕ) (s : Bytes) (at b : ℕ) (r : Bytes) (q : Spelling) → null_byte_b b ≡ true → spelling_of b ≡ q → drop at s ≡ b ∷ 45 ∷ 49 ∷ crlf r
    → Got s r (null_as q) (value_end (suc d) s at) (value_of (suc d) s at)
unfolding value_end items_end value_of
null_got d s at b r q o p h =
    let w = nulls.word-is s at b r o h in
    let k = after s at (b ∷ 45 ∷ []) _ h in
    let one = nulls.one-yes s (at + 2) (first s (at + 2) 49 (crlf r) k) in
    let found : null_as (spelling_of (get_or s at 0)) ≡ null_as q = ap (λ (x : ℕ). null_as (spelling_of x)) (first s at b _ h) ∙ ap null_as p in
    also found (rw w)
    (made (λ (x : Value). x) (ap (λ z. head_then z (λ n e. items_end d s n e)) (paths.head-null s at w) ∙ paths.alone-is d s _ ∙ one)
    (crlf-got s (at + 2 + 1) r (null_as (spelling_of (get_or s at 0))) (after s (at + 2) (49 ∷ []) (crlf r) k)))

module _ (d : ℕ) (s : Bytes) (one : OneLaw d s) (at : ℕ) (r : Bytes) where
  -- one value, by the law for those below it
  value-got : (v : Value) → Valid v → below v ≤ d → drop at s ≡ enc v r → Got s r v (value_end (suc d) s at) (value_of (suc d) s at)
  unfolding body_head body_of
  value-got (blob_string xs) ok l h =
      at_count d s at r BlobString _ _ _ h (made blob_string (paths.alone-is d s _) (blob-got s (at + 1) xs r (after s at (_ ∷ []) _ h)))
  value-got (simple_string xs) ok l h =
      at-kind d s at r SimpleString _ _ refl h (made simple_string (paths.alone-is d s _) (line-got s (at + 1) xs r ok (after s at (_ ∷ []) _ h)))
  value-got (simple_error xs) ok l h =
      at-kind d s at r SimpleError _ _ refl h (made simple_error (paths.alone-is d s _) (line-got s (at + 1) xs r ok (after s at (_ ∷ []) _ h)))
  value-got (number z) ok l h = at-kind d s at r Number _ _ refl h (made number (paths.alone-is d s _) (number-got s (at + 1) z r ok (after s at (_ ∷ []) _ h)))
  value-got (null_as underscore) ok l h =
      at-kind d s at r Null _ _ refl h (made (λ (x : Value). x) (paths.alone-is d s _) (crlf-got s (at + 1) r (null_as underscore) (after s at (_ ∷ []) _ h)))
  value-got (null_as blob_null) ok l h = null_got d s at _ r blob_null refl refl h
  value-got (null_as array_null) ok l h = null_got d s at _ r array_null refl refl h
  value-got (double xs) ok l h = at-kind d s at r Double _ _ refl h (made double (paths.alone-is d s _) (line-got s (at + 1) xs r ok (after s at (_ ∷ []) _ h)))
  value-got (boolean b) ok l h = at-kind d s at r Boolean _ _ refl h (made boolean (paths.alone-is d s _) (flag-got s (at + 1) b r (after s at (_ ∷ []) _ h)))
  value-got (blob_error xs) ok l h =
      at-kind d s at r BlobError _ _ refl h (made blob_error (paths.alone-is d s _) (blob-got s (at + 1) xs r (after s at (_ ∷ []) _ h)))
  value-got (verbatim_string f xs) ok l h =
      at-kind d s at r VerbatimString _ _ refl h (made (λ (x : Value). x) (paths.alone-is d s _) (verbatim-got s (at + 1) f xs r ok (after s at (_ ∷ []) _ h)))
  value-got (big_number xs) ok l h =
      at-kind d s at r BigNumber _ _ refl h (made big_number (paths.alone-is d s _) (line-got s (at + 1) xs r ok (after s at (_ ∷ []) _ h)))
  value-got (array vs) ok l h = at_count d s at r Array _ _ _ h (made array refl (list-got d s one (at + 1) r vs ok l (after s at (_ ∷ []) _ h)))
  value-got (map ps) ok l h = at-kind d s at r Map _ _ refl h (made map refl (map-got d s one (at + 1) r ps ok l (after s at (_ ∷ []) _ h)))
  value-got (set vs) ok l h = at-kind d s at r Set _ _ refl h (made set refl (list-got d s one (at + 1) r vs ok l (after s at (_ ∷ []) _ h)))
  value-got (attribute ps v) ok l h =
      at-kind d s at r Attribute _ _ refl h (attribute-got d s one (at + 1) r ps v ok.0 ok.1 (omega arith) (omega arith) (after s at (_ ∷ []) _ h))
  value-got (push vs) ok l h = at-kind d s at r Push _ _ refl h (made push refl (list-got d s one (at + 1) r vs ok l (after s at (_ ∷ []) _ h)))

-- where a valid value of depth at most d is written, it is read
pub read-law : (d : ℕ) (s : Bytes) (v : Value) → Valid v → depth v ≤ d → (at : ℕ) (r : Bytes) → drop at s ≡ enc v r
    → Got s r v (value_end d s at) (value_of d s at)
unfolding OneLaw
read-law zero s v ok l at r h = absurd (omega arith)
read-law (suc d) s v ok l at r h = value-got d s (λ w wk m a q g. read-law d s w wk m a q g) at r v ok (omega arith) h

-- and so are values one after the other
pub items-law : (d : ℕ) (s : Bytes) (vs : Values) → Valids vs → deepest vs ≤ d → (at : ℕ) (r : Bytes) → at ≤ length s → drop at s ≡ encs vs r
    → Got s r vs (items_end d s (count vs) at) (values_of d s (count vs) at)
unfolding OneLaw
items-law d s vs ok l at r i h = items-got d s (λ w wk m a q g. read-law d s w wk m a q g) vs ok l at r i h
