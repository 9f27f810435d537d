-- Values as they are written (Written.antt), and the encoder with the tests of validity and depth: what is written is a valid value's encoding within its
-- levels, and each such is written. Assumes nothing.
use Rattle.std.specs.Prelude.{◌≡◌, refl, ◌↔◌, [], ◌∷◌, ℕ, zero, suc, ◌≤◌, length}
use Rattle.std.proofs.Common.{sym, ap, ◌∙◌, subst, arith}
use Prim.Native.Char.{code}
use Rattle.buffer.specs.Same.{Bytes}
use Rattle.config.specs.Limits.{max_depth, max_bytes}
use Rattle.resp3.specs.Value.{underscore, blob_null, array_null, Value, Values, Pairs, blob_string, simple_string, simple_error, number, null_as, double, boolean}
use Rattle.resp3.specs.Value.{blob_error, verbatim_string, big_number}
use Rattle.resp3.specs.Value.{array, map, set, attribute, push, none, more, nil, pair, count, count_pairs, counted, deepest, deepest_pairs, depth}
use Rattle.resp3.specs.Value.{Valid, Valids, ValidPairs, enc, encs, enc_pairs, encode, Means}
use Rattle.resp3_prefix.specs.Meaning.{Within}
use Rattle.meaning.specs.Written.{Row, no_value, one_value, PairRow, no_pair, one_pair, Kinds, a_blob_string, a_simple_string, a_simple_error, a_number, a_null}
use Rattle.meaning.specs.Written.{a_blob_null, an_array_null, a_double, a_boolean, a_blob_error, a_verbatim_string, a_big_number, an_array, a_map, a_set}
use Rattle.meaning.specs.Written.{an_attribute, a_push, Written}

-- ---- what is written is an encoding

-- of a value within d levels, with r after it
record Encoded (d : ℕ) (v : Value) (r s : Bytes) : Type 0 where
  ok : Valid v
  deep : depth v ≤ d
  is : s ≡ enc v r

record EncodedRow (d : ℕ) (vs : Values) (r s : Bytes) : Type 0 where
  ok : Valids vs
  deep : deepest vs ≤ d
  is : s ≡ encs vs r

record EncodedPairs (d : ℕ) (ps : Pairs) (r s : Bytes) : Type 0 where
  ok : ValidPairs ps
  deep : deepest_pairs ps ≤ d
  is : s ≡ enc_pairs ps r

module _ (d : ℕ) (one : (v : Value) (r s : Bytes) → Written d v r s → Encoded d v r s) where
  row-encoded : {vs : Values} {r s : Bytes} → Row (Written d) vs r s → EncodedRow d vs r s
  row-encoded (no_value r) = record { ok = tt; deep = omega arith; is = refl }
  row-encoded (one_value v vs r s u w q) =
      let x = one v s u w in
      let y = row-encoded q in
      let a = x.deep in
      let b = y.deep in
      record { ok = (x.ok, y.ok); deep = omega arith; is = x.is ∙ ap (enc v) y.is }

  pairs-encoded : {ps : Pairs} {r s : Bytes} → PairRow (Written d) ps r s → EncodedPairs d ps r s
  pairs-encoded (no_pair r) = record { ok = tt; deep = omega arith; is = refl }
  pairs-encoded (one_pair k v ps r s u w key value q) =
      let x = one k u w key in
      let z = one v s u value in
      let y = pairs-encoded q in
      let a = x.deep in
      let c = z.deep in
      let b = y.deep in
      record { ok = (x.ok, z.ok, y.ok); deep = omega arith; is = x.is ∙ ap (enc k) (z.is ∙ ap (enc v) y.is) }

  kinds-encoded : {v : Value} {r s : Bytes} → Kinds (Written d) v r s → Encoded (suc d) v r s
  kinds-encoded (a_blob_string xs r) = record { ok = tt; deep = omega arith; is = refl }
  kinds-encoded (a_simple_string xs r l) = record { ok = l; deep = omega arith; is = refl }
  kinds-encoded (a_simple_error xs r l) = record { ok = l; deep = omega arith; is = refl }
  kinds-encoded (a_number z r l) = record { ok = l; deep = omega arith; is = refl }
  kinds-encoded (a_null r) = record { ok = tt; deep = omega arith; is = refl }
  kinds-encoded (a_blob_null r) = record { ok = tt; deep = omega arith; is = refl }
  kinds-encoded (an_array_null r) = record { ok = tt; deep = omega arith; is = refl }
  kinds-encoded (a_double xs r l) = record { ok = l; deep = omega arith; is = refl }
  kinds-encoded (a_boolean b r) = record { ok = tt; deep = omega arith; is = refl }
  kinds-encoded (a_blob_error xs r) = record { ok = tt; deep = omega arith; is = refl }
  kinds-encoded (a_verbatim_string f xs r l) = record { ok = l; deep = omega arith; is = refl }
  kinds-encoded (a_big_number xs r l) = record { ok = l; deep = omega arith; is = refl }
  kinds-encoded (an_array vs r s q) =
      let y = row-encoded q in
      let b = y.deep in
      record { ok = y.ok; deep = omega arith; is = ap (λ (z : Bytes). code "*" ∷ counted (count vs) z) y.is }
  kinds-encoded (a_map ps r s q) =
      let y = pairs-encoded q in
      let b = y.deep in
      record { ok = y.ok; deep = omega arith; is = ap (λ (z : Bytes). code "%" ∷ counted (count_pairs ps) z) y.is }
  kinds-encoded (a_set vs r s q) =
      let y = row-encoded q in
      let b = y.deep in
      record { ok = y.ok; deep = omega arith; is = ap (λ (z : Bytes). code "~" ∷ counted (count vs) z) y.is }
  kinds-encoded (an_attribute ps v r s u q w) =
      let y = pairs-encoded q in
      let x = one v r s w in
      let a = x.deep in
      let b = y.deep in
      record {
        ok = (y.ok, x.ok);
        deep = omega arith;
        is = ap (λ (z : Bytes). code "|" ∷ counted (count_pairs ps) z) (y.is ∙ ap (enc_pairs ps) x.is);
      }
  kinds-encoded (a_push vs r s q) =
      let y = row-encoded q in
      let b = y.deep in
      record { ok = y.ok; deep = omega arith; is = ap (λ (z : Bytes). code ">" ∷ counted (count vs) z) y.is }

written-encoded : (d : ℕ) (v : Value) (r s : Bytes) → Written d v r s → Encoded d v r s
written-encoded zero v r s w = absurd w
written-encoded (suc d) v r s w = kinds-encoded d (written-encoded d) w

-- ---- and each is written

module _ (d : ℕ) (one : (v : Value) (r : Bytes) → Valid v → depth v ≤ d → Written d v r (enc v r)) where
  row_written : (vs : Values) (r : Bytes) → Valids vs → deepest vs ≤ d → Row (Written d) vs r (encs vs r)
  row_written none r ok l = no_value r
  row_written (more v vs) r ok l = one_value v vs r (encs vs r) _ (one v (encs vs r) ok.0 (omega arith)) (row_written vs r ok.1 (omega arith))

  pairs-written : (ps : Pairs) (r : Bytes) → ValidPairs ps → deepest_pairs ps ≤ d → PairRow (Written d) ps r (enc_pairs ps r)
  pairs-written nil r ok l = no_pair r
  pairs-written (pair k v ps) r ok l =
      one_pair k v ps r (enc_pairs ps r) (enc v (enc_pairs ps r)) _ (one k _ ok.0 (omega arith)) (one v _ ok.1 (omega arith))
      (pairs-written ps r ok.2 (omega arith))

  kinds-written : (v : Value) (r : Bytes) → Valid v → depth v ≤ suc d → Kinds (Written d) v r (enc v r)
  kinds-written (blob_string xs) r ok l = a_blob_string xs r
  kinds-written (simple_string xs) r ok l = a_simple_string xs r ok
  kinds-written (simple_error xs) r ok l = a_simple_error xs r ok
  kinds-written (number z) r ok l = a_number z r ok
  kinds-written (null_as underscore) r ok l = a_null r
  kinds-written (null_as blob_null) r ok l = a_blob_null r
  kinds-written (null_as array_null) r ok l = an_array_null r
  kinds-written (double xs) r ok l = a_double xs r ok
  kinds-written (boolean b) r ok l = a_boolean b r
  kinds-written (blob_error xs) r ok l = a_blob_error xs r
  kinds-written (verbatim_string f xs) r ok l = a_verbatim_string f xs r ok
  kinds-written (big_number xs) r ok l = a_big_number xs r ok
  kinds-written (array vs) r ok l = an_array vs r _ (row_written vs r ok (omega arith))
  kinds-written (map ps) r ok l = a_map ps r _ (pairs-written ps r ok (omega arith))
  kinds-written (set vs) r ok l = a_set vs r _ (row_written vs r ok (omega arith))
  kinds-written (attribute ps v) r ok l =
      an_attribute ps v r (enc v r) _ (pairs-written ps (enc v r) ok.0 (omega arith)) (one v r ok.1 (omega arith))
  kinds-written (push vs) r ok l = a_push vs r _ (row_written vs r ok (omega arith))

encoded-written : (d : ℕ) (v : Value) (r : Bytes) → Valid v → depth v ≤ d → Written d v r (enc v r)
encoded-written zero v r ok l = omega arith
encoded-written (suc d) v r ok l = kinds-written d (encoded-written d) v r ok l

-- ---- the readings

pub means-written : (s : Bytes) (v : Value) → Means s v ↔ Written max_depth v [] s
unfolding encode
means-written s v = (
  λ m. subst (Written max_depth v []) (sym m.is) (encoded-written max_depth v [] m.ok m.deep),
  λ w. let x = written-encoded max_depth v [] s w in record { ok = x.ok; deep = x.deep; is = x.is },
)

pub encode-written : (d : ℕ) (v : Value) (s : Bytes) → Written d v [] s → encode v ≡ s
unfolding encode
encode-written d v s w = sym (written-encoded d v [] s w).is

pub row-bytes : (d : ℕ) (vs : Values) (r s : Bytes) → Row (Written d) vs r s → encs vs r ≡ s
row-bytes d vs r s w = sym (row-encoded d (written-encoded d) w).is

pub within-written : (v : Value) → Within v ↔ ((s : Bytes) × (length s ≤ max_bytes) × Written max_depth v [] s)
unfolding encode
within-written v = (
  λ m. (encode v, m.small, encoded-written max_depth v [] m.ok m.deep),
  λ w.
      let x = written-encoded max_depth v [] w.0 w.2 in
      record { ok = x.ok; deep = x.deep; small = subst (λ (s : Bytes). length s ≤ max_bytes) x.is w.1 },
)
