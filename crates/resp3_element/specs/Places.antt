-- What is read at places of a slice: what the code answers on any bytes, those that are no value too. Assumes nothing: these are definitions.
-- specs/Law.antt shows that on a value's bytes they find what specs/Meaning.antt says.
use Rattle.std.specs.Prelude.{Bool, true, cond, ℕ, ◌+◌, ◌-◌, eqb, leb, length, get_or, take, drop, ℤ, pos, negsuc, Option, Some, None}
use Rattle.buffer.specs.Same.{Bytes}
use Rattle.config.specs.Limits.{max_depth}
use Rattle.decimal.specs.Read.{num_def}
use Rattle.resp3.specs.declared.Kind.{Kind}
use Rattle.resp3.specs.declared.Kind.TheVariants.{Null}
use Rattle.resp3.specs.Kinds.{kind_of}
use Rattle.resp3.specs.Ends.{length_at, null_word_b, value_end}
use Rattle.resp3.specs.Decode.{num_case}
use Rattle.resp3_element.specs.declared.Cursor.{Cursor}
use Rattle.std.specs.declared.ops.Range.{Range}

-- where it ended, or a
abbrev pub end_else : ℕ → Option ℕ → ℕ
end_else a (Some e) = e
end_else a None = a

-- the cursor at the first of `left` elements
unfoldable pub stand_at : Bytes → ℕ → ℕ → Cursor
stand_at s at left = record { at = at; end = cond (eqb left 0) at (end_else at (value_end max_depth s at)); left = left }

-- the elements of a list that begins with b
unfoldable pub list_at : ℕ → Bytes → Option Cursor
list_at b s = cond (eqb (get_or s 0 0) b) (num_case (length_at s 1) (λ n e. Some (stand_at s e n)) None) None

-- the kind that the first byte begins, but for RESP2's nulls
abbrev pub kind_at : Bytes → Kind
kind_at s = cond (null_word_b s 0) Null (kind_of (get_or s 0 0))

-- `_`, or a null of RESP2's
abbrev pub null_at : Bytes → Bool
null_at s = cond (eqb (get_or s 0 0) 95) true (null_word_b s 0)

-- the first byte is a server error's
abbrev pub error_at : Bytes → Bool
error_at s = cond (eqb (get_or s 0 0) 45) true (eqb (get_or s 0 0) 33)

-- an integer behind a minus
abbrev pub minus_of : Option (ℕ × ℕ) → Option ℤ
minus_of (Some (n, e)) = cond (eqb n 0) None (Some (negsuc (n - 1)))
minus_of None = None

-- and without one
abbrev pub plus_of : Option (ℕ × ℕ) → Option ℤ
plus_of (Some (n, e)) = Some (pos n)
plus_of None = None

-- an integer
unfoldable pub integer_at : Bytes → Option ℤ
integer_at s =
    cond (eqb (get_or s 0 0) 58)
    (cond (eqb (get_or s 1 0) 45) (minus_of (num_def 9223372036854775808 s 2)) (plus_of (num_def 9223372036854775807 s 1)))
    None

-- no bytes
abbrev pub no_range : Range ℕ
no_range = record { start = 0; end = 0 }

-- n bytes at e, if they are there
unfoldable pub range_of : Bytes → ℕ → ℕ → Range ℕ
range_of s n e = cond (leb n (length s - e)) (record { start = e; end = e + n }) no_range

-- where a blob string's bytes stand
unfoldable pub range_at : Bytes → Range ℕ
range_at s = cond (eqb (get_or s 0 0) 36) (num_case (length_at s 1) (λ n e. range_of s n e) no_range) no_range

-- the bytes of a range
abbrev pub in_range : Bytes → Range ℕ → Bytes
in_range s p = take (p.end - p.start) (drop p.start s)
