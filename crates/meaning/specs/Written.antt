-- RESP3's values as they are written, kind by kind: which bytes are which value, within so many levels. Who believes this page need not read how values are
-- encoded, when one is valid and how deep it nests (`means`, `encoded` and `within` of `Readings`, Meaning.antt). Assumes nothing: these are definitions.
-- Bytes are told with what follows them: s is what is written and r after it. Lines end in CR LF; doubles and big numbers are text.
use Rattle.std.specs.Prelude.{◌≡◌, true, cond, Bool, ◌∷◌, ◌++◌, ℕ, zero, suc, length, ℤ}
use Prim.Native.Char.{code}
use Rattle.buffer.specs.Same.{Bytes}
use Rattle.resp3.specs.Value.{blob_null, array_null, Value, Values, Pairs, blob_string, simple_string, simple_error, number, null_as, null, double, boolean}
use Rattle.resp3.specs.Value.{blob_error, verbatim_string, big_number, array, map, set, attribute, push, none, more, nil, pair, count, count_pairs, one_line}
use Rattle.resp3.specs.Value.{Fits64, crlf, counted, framed, integer}

-- what is inside a value, where W says of each value how it is written
module _ (W : Value → Bytes → Bytes → Type 0) where
  -- values in a row
  pub data Row : Values → Bytes → Bytes → Type 0 where
    no_value : (r : Bytes) → Row none r r
    one_value : (v : Value) (vs : Values) (r s u : Bytes) → W v s u → Row vs r s → Row (more v vs) r u

  -- keys, each with its value
  pub data PairRow : Pairs → Bytes → Bytes → Type 0 where
    no_pair : (r : Bytes) → PairRow nil r r
    one_pair : (k v : Value) (ps : Pairs) (r s u w : Bytes) → W k u w → W v s u → PairRow ps r s → PairRow (pair k v ps) r w

  -- the fifteen kinds, and the two ways in which RESP2 spells a null: integers fit 64 bits, a line has no CR and no LF, a format is three bytes
  pub data Kinds : Value → Bytes → Bytes → Type 0 where
    a_blob_string : (xs r : Bytes) → Kinds (blob_string xs) r (code "$" ∷ framed xs r)
    a_simple_string : (xs r : Bytes) → one_line xs ≡ true → Kinds (simple_string xs) r (code "+" ∷ (xs ++ crlf r))
    a_simple_error : (xs r : Bytes) → one_line xs ≡ true → Kinds (simple_error xs) r (code "-" ∷ (xs ++ crlf r))
    a_number : (z : ℤ) (r : Bytes) → Fits64 z → Kinds (number z) r (code ":" ∷ (integer z ++ crlf r))
    a_null : (r : Bytes) → Kinds null r (code "_" ∷ crlf r)
    a_blob_null : (r : Bytes) → Kinds (null_as blob_null) r (code "$" ∷ code "-" ∷ code "1" ∷ crlf r)
    an_array_null : (r : Bytes) → Kinds (null_as array_null) r (code "*" ∷ code "-" ∷ code "1" ∷ crlf r)
    a_double : (xs r : Bytes) → one_line xs ≡ true → Kinds (double xs) r (code "," ∷ (xs ++ crlf r))
    a_boolean : (b : Bool) (r : Bytes) → Kinds (boolean b) r (code "#" ∷ cond b (code "t") (code "f") ∷ crlf r)
    a_blob_error : (xs r : Bytes) → Kinds (blob_error xs) r (code "!" ∷ framed xs r)
    a_verbatim_string : (f xs r : Bytes) → length f ≡ 3 → Kinds (verbatim_string f xs) r (code "=" ∷ framed (f ++ (code ":" ∷ xs)) r)
    a_big_number : (xs r : Bytes) → one_line xs ≡ true → Kinds (big_number xs) r (code "(" ∷ (xs ++ crlf r))
    an_array : (vs : Values) (r s : Bytes) → Row vs r s → Kinds (array vs) r (code "*" ∷ counted (count vs) s)
    a_map : (ps : Pairs) (r s : Bytes) → PairRow ps r s → Kinds (map ps) r (code "%" ∷ counted (count_pairs ps) s)
    a_set : (vs : Values) (r s : Bytes) → Row vs r s → Kinds (set vs) r (code "~" ∷ counted (count vs) s)
    an_attribute : (ps : Pairs) (v : Value) (r s u : Bytes) → PairRow ps s u → W v r s → Kinds (attribute ps v) r (code "|" ∷ counted (count_pairs ps) u)
    a_push : (vs : Values) (r s : Bytes) → Row vs r s → Kinds (push vs) r (code ">" ∷ counted (count vs) s)

-- a value of at most so many levels, the outermost counting 1
abbrev pub Written : ℕ → Value → Bytes → Bytes → Type 0
Written zero v r s = ⊥
Written (suc d) v r s = Kinds (Written d) v r s
