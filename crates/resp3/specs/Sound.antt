-- What is read was written: where the reader finds an end, the bytes of a valid value stand before it. Assumes nothing.
use Rattle.std.specs.Prelude.{◌≡◌, true, ◌∷◌, ℕ, zero, suc, ◌+◌, ◌-◌, ◌≤◌, ◌<◌, eqb, length, get_or, drop, Option, Some, None}
use Rattle.std.proofs.Math.Path.{refl}
use Rattle.std.proofs.Common.{sym, ap, ◌∙◌, ⊎_elim, arith, eqb-true}
use Rattle.buffer.specs.Same.{Bytes}
use Rattle.buffer.specs.Cases.{by_test}
use Rattle.buffer.specs.Places.{inside, step}
use Rattle.resp3.specs.declared.Kind.{Kind}
use Rattle.resp3.specs.declared.Kind.TheVariants.{BlobString, SimpleString, SimpleError, Number, Null, Double, Boolean, BlobError}
use Rattle.resp3.specs.declared.Kind.TheVariants.{VerbatimString, BigNumber, Array, Map, Set, Attribute, Push, Unknown}
use Rattle.resp3.specs.Kinds.{byte_of, shape_of, kind_of}
use Rattle.resp3.specs.KindLaws.{kind-known}
use Rattle.resp3.specs.Value.{blob_null, array_null, Value, Values, Pairs, blob_string, simple_string, simple_error, number, null_as, null, double}
use Rattle.resp3.specs.Value.{boolean, blob_error, verbatim_string, big_number, array, map, set, attribute, push, none, more, count, below, deepest}
use Rattle.resp3.specs.Value.{depth, Valid, Valids, crlf, counted, enc, encs, enc_pairs}
use Rattle.resp3.specs.Ends.{num_then, end_then, length_at, alone_of, count_of, body_head, null_word_b, head_at, head_then, iter, value_end, items_end}
use Rattle.resp3.specs.Nulls.{word-says}
use Rattle.resp3.specs.Paths as paths
use Rattle.resp3.specs.Rows.{head_of, flat, flat-enc, valid-flat, deep-flat, pair_up, skip, paired, row-none, row_one}
use Rattle.resp3.specs.Says.{not-bad, at_same, crlf-says, num-then, length-says, blob-says, line-says, verbatim-says, number-says, flag-says, one-says}

-- a value of nesting at most d was written at `at`, up to e
pub record Written (d : ℕ) (s : Bytes) (at e : ℕ) : Type 0 where
  pub v : Value
  pub ok : Valid v
  pub deep : depth v ≤ d
  pub is : drop at s ≡ enc v (drop e s)

-- n of them
record AllWritten (d : ℕ) (s : Bytes) (n at e : ℕ) : Type 0 where
  vs : Values
  many : count vs ≡ n
  ok : Valids vs
  deep : deepest vs ≤ d
  is : drop at s ≡ encs vs (drop e s)

-- a row that ends was written
items-sound : (d : ℕ) (s : Bytes) → ((at e : ℕ) → value_end d s at ≡ Some e → Written d s at e) → (n at e : ℕ) → items_end d s n at ≡ Some e
    → AllWritten d s n at e
unfolding items_end iter
items-sound d s one zero at e h = record { vs = none; many = refl; ok = tt; deep = omega arith; is = ap (λ (k : ℕ). drop k s) (at_same at e h) }
items-sound d s one (suc n) at e h = go (value_end d s at) refl h (λ q k. items-sound d s one n q e k)
  where
    go : (x : Option ℕ) → value_end d s at ≡ x → end_then x (λ q. iter (λ k. value_end d s k) n q) ≡ Some e
        → ((q : ℕ) → items_end d s n q ≡ Some e → AllWritten d s n q e) → AllWritten d s (suc n) at e
    go (Some q) i k rest =
        let w = one at q i in
        let r = rest q k in
        record { vs = more w.v r.vs; many = ap suc r.many; ok = (w.ok, r.ok); deep = omega arith; is = w.is ∙ ap (enc w.v) r.is }
    go None i k rest = absurd (not-bad e k)

-- behind a count n, a row of f n values
record RowSays (d : ℕ) (s : Bytes) (f : ℕ → ℕ) (p e : ℕ) : Type 0 where
  n : ℕ
  row : Values
  many : count row ≡ f n
  ok : Valids row
  deep : deepest row ≤ d
  is : drop p s ≡ counted n (encs row (drop e s))

-- one value, by its kind; `rec` reads its elements
module _ (d : ℕ) (s : Bytes) (at e : ℕ) (rec : (n q : ℕ) → items_end d s n q ≡ Some e → AllWritten d s n q e) where
  -- a count and a row that end were written
  row-says : (f : ℕ → ℕ) (p : ℕ) → num_then (length_at s p) (λ n q. items_end d s (f n) q) ≡ Some e → RowSays d s f p e
  row-says f p h =
      let z = num-then (length_at s p) (λ n q. items_end d s (f n) q) e h in
      let w = rec (f z.n) z.q z.then in
      record { n = z.n; row = w.vs; many = w.many; ok = w.ok; deep = w.deep; is = length-says s p z.n z.q z.is ∙ ap (counted z.n) w.is }

  -- a row of as many values as its count
  list-says : (p : ℕ) → num_then (length_at s p) (λ n q. items_end d s n q) ≡ Some e → RowSays d s (λ n. n) p e
  list-says p h = row-says (λ n. n) p h

  -- a list's count is that of its row
  list-is : (p : ℕ) (z : RowSays d s (λ n. n) p e) → drop p s ≡ counted (count z.row) (encs z.row (drop e s))
  list-is p z = z.is ∙ ap (λ (n : ℕ). counted n (encs z.row (drop e s))) (sym z.many)

  module _ (i : at < length s) where
    -- a value of this kind was written, if its body was
    written : (k : Kind) (v : Value) (q : Bytes) → get_or s at 0 ≡ byte_of k → Valid v → below v ≤ d → drop (at + 1) s ≡ q → byte_of k ∷ q ≡ enc v (drop e s)
        → Written (suc d) s at e
    written k v q b ok l h g = record { v = v; ok = ok; deep = omega arith; is = step s at i ∙ rw (b, h) g }

    -- a map was written
    map-written : get_or s at 0 ≡ byte_of Map → RowSays d s (λ n. n + n) (at + 1) e → Written (suc d) s at e
    map-written b z =
        let n : ℕ = z.n in
        let k = paired n 0 z.row (omega arith) in
        let t : flat (pair_up n z.row) none ≡ z.row = ap (flat (pair_up n z.row)) (sym (row-none _ k.others)) ∙ k.is in
        let ok = valid-flat (pair_up n z.row) none (rw t z.ok) in
        let l = deep-flat (pair_up n z.row) none d (rw t z.deep) in
        written Map (map (pair_up n z.row)) _ b ok.0 l.0
        (z.is ∙ ap (counted n) (ap (λ (ws : Values). encs ws (drop e s)) (sym t) ∙ flat-enc (pair_up n z.row) none (drop e s)))
        (ap (λ (m : ℕ). byte_of Map ∷ counted m (enc_pairs (pair_up n z.row) (drop e s))) (sym k.pairs))

    -- an attribute was written
    attribute-written : get_or s at 0 ≡ byte_of Attribute → RowSays d s (λ n. n + n + 1) (at + 1) e → Written (suc d) s at e
    attribute-written b z =
        let n : ℕ = z.n in
        let ps : Pairs = pair_up n z.row in
        let v : Value = head_of (skip n z.row) in
        let k = paired n 1 z.row (omega arith) in
        let t : flat ps (more v none) ≡ z.row = ap (flat ps) (sym (row_one _ k.others)) ∙ k.is in
        let ok = valid-flat ps (more v none) (rw t z.ok) in
        let l = deep-flat ps (more v none) d (rw t z.deep) in
        written Attribute (attribute ps v) _ b (ok.0, ok.1.0) (omega arith)
        (z.is ∙ ap (counted n) (ap (λ (ws : Values). encs ws (drop e s)) (sym t) ∙ flat-enc ps (more v none) (drop e s)))
        (ap (λ (m : ℕ). byte_of Attribute ∷ counted m (enc_pairs ps (enc v (drop e s)))) (sym k.pairs))

    -- what ended with no value inside, ended there
    single : {x : Option ℕ} → head_then (alone_of x) (λ n q. items_end d s n q) ≡ Some e → x ≡ Some e
    single {x} h = sym (paths.alone-is d s x) ∙ h

    -- behind a count, the values ended there
    rowed : (x : Option (ℕ × ℕ)) (f : ℕ → ℕ) → head_then (count_of x f) (λ n q. items_end d s n q) ≡ Some e → num_then x (λ n q. items_end d s (f n) q) ≡ Some e
    rowed x f h = sym (paths.count-is x f (λ n q. items_end d s n q)) ∙ h

    -- a value was written, whatever its kind
    by_kind : (k : Kind) → get_or s at 0 ≡ byte_of k → paths.body_end (shape_of k) s (λ n q. items_end d s n q) (at + 1) ≡ Some e → Written (suc d) s at e
    unfolding body_head
    by_kind BlobString b h = let z = blob-says s (at + 1) e (single h) in written BlobString (blob_string z.xs) _ b tt (omega arith) z.is refl
    by_kind SimpleString b h = let z = line-says s (at + 1) e (single h) in written SimpleString (simple_string z.xs) _ b z.ok (omega arith) z.is refl
    by_kind SimpleError b h = let z = line-says s (at + 1) e (single h) in written SimpleError (simple_error z.xs) _ b z.ok (omega arith) z.is refl
    by_kind Number b h = let z = number-says s (at + 1) e (single h) in written Number (number z.z) _ b z.ok (omega arith) z.is refl
    by_kind Null b h = written Null null _ b tt (omega arith) (crlf-says s (at + 1) e (single h)).1 refl
    by_kind Double b h = let z = line-says s (at + 1) e (single h) in written Double (double z.xs) _ b z.ok (omega arith) z.is refl
    by_kind Boolean b h = let z = flag-says s (at + 1) e (single h) in written Boolean (boolean z.b) _ b tt (omega arith) z.is refl
    by_kind BlobError b h = let z = blob-says s (at + 1) e (single h) in written BlobError (blob_error z.xs) _ b tt (omega arith) z.is refl
    by_kind VerbatimString b h =
        let z = verbatim-says s (at + 1) e (single h) in
        written VerbatimString (verbatim_string z.f z.xs) _ b z.three (omega arith) z.is refl
    by_kind BigNumber b h = let z = line-says s (at + 1) e (single h) in written BigNumber (big_number z.xs) _ b z.ok (omega arith) z.is refl
    by_kind Array b h =
        let z = list-says (at + 1) (rowed (length_at s (at + 1)) (λ n. n) h) in
        written Array (array z.row) _ b z.ok z.deep (list-is (at + 1) z) refl
    by_kind Map b h = map-written b (row-says (λ n. n + n) (at + 1) (rowed (length_at s (at + 1)) (λ n. n + n) h))
    by_kind Set b h =
        let z = list-says (at + 1) (rowed (length_at s (at + 1)) (λ n. n) h) in
        written Set (set z.row) _ b z.ok z.deep (list-is (at + 1) z) refl
    by_kind Attribute b h = attribute-written b (row-says (λ n. n + n + 1) (at + 1) (rowed (length_at s (at + 1)) (λ n. n + n + 1) h))
    by_kind Push b h =
        let z = list-says (at + 1) (rowed (length_at s (at + 1)) (λ n. n) h) in
        written Push (push z.row) _ b z.ok z.deep (list-is (at + 1) z) refl
    by_kind Unknown b h = absurd (not-bad e h)

    -- so was a null of RESP2's
    null-written : null_word_b s at ≡ true → drop (at + 2) s ≡ 49 ∷ crlf (drop e s) → Written (suc d) s at e
    null-written w h =
        let t = word-says s at w in
        let m = t.1 in
        let two : at + 1 + 1 ≡ at + 2 = omega arith in
        let q : drop (at + 1) s ≡ 45 ∷ 49 ∷ crlf (drop e s) =
        step s (at + 1) (inside s (at + 1) (omega arith)) ∙ rw (m, two) (ap (λ (z : Bytes). 45 ∷ z) h) in
        by_test (eqb (get_or s at 0) 36)
        (λ b. written BlobString (null_as blob_null) _ (eqb-true (get_or s at 0) 36 b) tt (omega arith) q refl)
        (λ b. written Array (null_as array_null) _ (eqb-true (get_or s at 0) 42 (rw b at t.0)) tt (omega arith) q refl)

-- no kind has no end
nothing : (s : Bytes) (d e p : ℕ) → paths.body_end (shape_of Unknown) s (λ n q. items_end d s n q) p ≡ Some e → None ≡ Some e
unfolding body_head
nothing s d e p h = h

-- where the reader ends, a value was written
pub end-sound : (d : ℕ) (s : Bytes) (at e : ℕ) → value_end d s at ≡ Some e → Written d s at e
end-sound zero s at e h = absurd (not-bad e (sym (paths.end-zero 0 s at refl) ∙ h))
end-sound (suc d) s at e h = go (λ n q k. items-sound d s (λ a b c. end-sound d s a b c) n q e k)
  where
    i : at < length s
    i = paths.end-in (suc d) s at e h

    head : (x : Option (ℕ × ℕ)) → head_at s at ≡ x → head_then x (λ n q. items_end d s n q) ≡ Some e
    head x k = let j : suc d - 1 ≡ d = omega arith in rw j at (sym (paths.end-head (suc d) s at x (λ z. omega arith) k) ∙ h)

    unknown : paths.body_end (shape_of (kind_of (get_or s at 0))) s (λ n q. items_end d s n q) (at + 1) ≡ Some e → kind_of (get_or s at 0) ≡ Unknown → ⊥
    unknown body u = not-bad e (nothing s d e (at + 1) (rw u at body))

    kinds : ((n q : ℕ) → items_end d s n q ≡ Some e → AllWritten d s n q e)
        → paths.body_end (shape_of (kind_of (get_or s at 0))) s (λ n q. items_end d s n q) (at + 1) ≡ Some e → Written (suc d) s at e
    kinds rec body = ⊎_elim (λ b. by_kind d s at e rec i (kind_of (get_or s at 0)) b body) (λ u. absurd (unknown body u)) (kind-known (get_or s at 0))

    go : ((n q : ℕ) → items_end d s n q ≡ Some e → AllWritten d s n q e) → Written (suc d) s at e
    go rec =
        by_test (null_word_b s at)
        (λ w. null-written d s at e rec i w (one-says s (at + 2) e (single d s at e rec i (head _ (paths.head-null s at w)))))
        (λ w. kinds rec (head _ (paths.head-kind s at w ∙ paths.head-is s at _ refl)))
