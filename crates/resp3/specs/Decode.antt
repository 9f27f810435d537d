-- The value that bytes hold, read off beside where it ends (specs/Ends.antt). Assumes nothing: these are definitions.
-- Nobody has to believe them: proofs/Law.antt shows that what they find is what was written.
use Rattle.std.specs.Prelude.{Bool, cond, [], ℕ, zero, suc, ◌+◌, ◌-◌, eqb, get_or, take, drop, ℤ, pos, negsuc, Option, Some, None}
use Rattle.buffer.specs.Same.{Bytes}
use Rattle.config.specs.Limits.{max_depth}
use Rattle.decimal.specs.Read.{num_def}
use Rattle.resp3.specs.declared.Kind.{Kind}
use Rattle.resp3.specs.declared.Kind.TheVariants.{BlobString, SimpleString, SimpleError, Number, Null, Double, Boolean, BlobError}
use Rattle.resp3.specs.declared.Kind.TheVariants.{VerbatimString, BigNumber, Array, Map, Set, Attribute, Push, Unknown}
use Rattle.resp3.specs.Kinds.{kind_of}
use Rattle.resp3.specs.Ends.{length_at, plain, null_word_b, value_end}
use Rattle.resp3.specs.Rows.{head_of, pair_up, skip}
use Rattle.resp3.specs.Value.{Spelling, blob_null, array_null, Value, Values, Pairs, blob_string, simple_string, simple_error, number, null_as}
use Rattle.resp3.specs.Value.{double, boolean, blob_error, null, verbatim_string, big_number, array, map, set, attribute, push, none, more, nil}

-- go on with a number and where it ended, or take a
abbrev pub num_case : {A : Type 0} → Option (ℕ × ℕ) → (ℕ → ℕ → A) → A → A
num_case (Some (n, e)) f a = f n e
num_case None f a = a

-- the number, or 0
abbrev pub num_or : Option (ℕ × ℕ) → ℕ
num_or (Some (n, e)) = n
num_or None = 0

-- the end, or 0
abbrev pub end_or : Option ℕ → ℕ
end_or (Some e) = e
end_or None = 0

-- the bytes behind a length
unfoldable pub bytes_at : Bytes → ℕ → Bytes
bytes_at s p = num_case (length_at s p) (λ n e. take n (drop e s)) []

-- a line's body
unfoldable pub line_at : Bytes → ℕ → Bytes
line_at s p = take (plain (drop p s)) (drop p s)

-- an integer
unfoldable pub integer_at : Bytes → ℕ → ℤ
integer_at s p =
    cond (eqb (get_or s p 0) 45)
    (negsuc (num_or (num_def 9223372036854775808 s (p + 1)) - 1))
    (pos (num_or (num_def 9223372036854775807 s p)))

-- whether it is t
unfoldable pub flag_at : Bytes → ℕ → Bool
flag_at s p = eqb (get_or s p 0) 116

-- the values behind a count
unfoldable pub values_at : Bytes → (ℕ → ℕ → Values) → ℕ → Values
values_at s many p = num_case (length_at s p) (λ n e. many n e) none

-- the pairs behind a count
unfoldable pub pairs_at : Bytes → (ℕ → ℕ → Values) → ℕ → Pairs
pairs_at s many p = num_case (length_at s p) (λ n e. pair_up n (many (n + n) e)) nil

-- the pairs behind a count, and the value after them
unfoldable pub attribute_at : Bytes → (ℕ → ℕ → Values) → ℕ → Value
attribute_at s many p = num_case (length_at s p) (λ n e. attribute (pair_up n (many (n + n + 1) e)) (head_of (skip n (many (n + n + 1) e)))) null

-- by its kind, the value whose first byte stands before p; `many n e` reads n values from e on
unfoldable pub body_of : Kind → Bytes → (ℕ → ℕ → Values) → ℕ → Value
body_of BlobString s many p = blob_string (bytes_at s p)
body_of SimpleString s many p = simple_string (line_at s p)
body_of SimpleError s many p = simple_error (line_at s p)
body_of Number s many p = number (integer_at s p)
body_of Null s many p = null
body_of Double s many p = double (line_at s p)
body_of Boolean s many p = boolean (flag_at s p)
body_of BlobError s many p = blob_error (bytes_at s p)
body_of VerbatimString s many p = verbatim_string (take 3 (bytes_at s p)) (drop 4 (bytes_at s p))
body_of BigNumber s many p = big_number (line_at s p)
body_of Array s many p = array (values_at s many p)
body_of Map s many p = map (pairs_at s many p)
body_of Set s many p = set (values_at s many p)
body_of Attribute s many p = attribute_at s many p
body_of Push s many p = push (values_at s many p)
body_of Unknown s many p = null

-- which of RESP2's nulls begins with b
abbrev pub spelling_of : ℕ → Spelling
spelling_of b = cond (eqb b 36) blob_null array_null

-- n values, one after the other, by readers of one
unfoldable pub iter_of : (ℕ → Option ℕ) → (ℕ → Value) → ℕ → ℕ → Values
iter_of f g zero q = none
iter_of f g (suc n) q = more (g q) (iter_of f g n (end_or (f q)))

-- the value at `at`, where there is one that nests at most d deep
unfoldable pub value_of : ℕ → Bytes → ℕ → Value
value_of zero s at = null
value_of (suc d) s at =
    cond (null_word_b s at) (null_as (spelling_of (get_or s at 0)))
    (body_of (kind_of (get_or s at 0)) s (λ n e. iter_of (λ q. value_end d s q) (λ q. value_of d s q) n e) (at + 1))

-- n values from at on
unfoldable pub values_of : ℕ → Bytes → ℕ → ℕ → Values
values_of d s n at = iter_of (λ q. value_end d s q) (λ q. value_of d s q) n at

-- the value that a checked byte string is
unfoldable pub decode : Bytes → Value
decode s = value_of max_depth s 0
