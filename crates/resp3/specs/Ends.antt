-- Where a value ends, read off the bytes from a place on: what the reader computes. Assumes nothing: these are definitions.
-- Nobody has to believe them: proofs/Law.antt shows that they agree with specs/Value.antt.
use Rattle.std.specs.Prelude.{Bool, true, false, cond, [], ◌∷◌, ℕ, zero, suc, ◌+◌, leb, eqb, length, get_or, drop, Option, Some, None}
use Rattle.buffer.specs.Same.{Bytes}
use Rattle.config.specs.Limits.{max_bytes, max_depth}
use Rattle.decimal.specs.Read.{both, crlf_b, num_def}
use Rattle.resp3.specs.declared.Shape.{Shape}
use Rattle.resp3.specs.declared.Shape.TheVariants.{Blob, Line, Integer, Empty, Flag, Verbatim, List as ListS, Pairs, PairsAndValue, Nothing}
use Rattle.resp3.specs.Kinds.{kind_of, shape_of}
use Rattle.resp3.specs.Value.{plain_b}

-- go on where something ended
abbrev pub end_then : Option ℕ → (ℕ → Option ℕ) → Option ℕ
end_then (Some q) f = f q
end_then None f = None

-- go on with a number and where it ended
abbrev pub num_then : Option (ℕ × ℕ) → (ℕ → ℕ → Option ℕ) → Option ℕ
num_then (Some (n, e)) f = f n e
num_then None f = None

-- a length or a count at `at`: no more than the list has bytes
unfoldable pub length_at : Bytes → ℕ → Option (ℕ × ℕ)
length_at s at = num_def (length s) s at

-- CR LF
unfoldable pub crlf_end : Bytes → ℕ → Option ℕ
crlf_end s at = cond (crlf_b s at) (Some (at + 2)) None

-- how many bytes that are neither CR nor LF the list begins with
unfoldable pub plain : Bytes → ℕ
plain [] = 0
plain (x ∷ xs) = cond (plain_b x) (suc (plain xs)) 0

-- a line
unfoldable pub line_end : Bytes → ℕ → Option ℕ
line_end s at = crlf_end s (at + plain (drop at s))

-- bytes behind their length, and CR LF
unfoldable pub blob_end : Bytes → ℕ → Option ℕ
blob_end s at = num_then (length_at s at) (λ n e. crlf_end s (e + n))

-- the same, of at least four bytes, the fourth a colon
unfoldable pub verbatim_end : Bytes → ℕ → Option ℕ
verbatim_end s at = num_then (length_at s at) (λ n e. cond (leb 4 n) (cond (eqb (get_or s (e + 3) 0) 58) (crlf_end s (e + n)) None) None)

-- with a minus at most 2^63 and not 0; without one below 2^63
unfoldable pub number_end : Bytes → ℕ → Option ℕ
number_end s at =
    cond (eqb (get_or s at 0) 45)
    (num_then (num_def 9223372036854775808 s (at + 1)) (λ n e. cond (eqb n 0) None (Some e)))
    (num_then (num_def 9223372036854775807 s at) (λ n e. Some e))

-- t or f, and CR LF
unfoldable pub boolean_end : Bytes → ℕ → Option ℕ
boolean_end s at =
    cond (eqb (get_or s at 0) 116) (crlf_end s (at + 1))
    (cond (eqb (get_or s at 0) 102) (crlf_end s (at + 1)) None)

-- a value with none inside it
abbrev pub alone_of : Option ℕ → Option (ℕ × ℕ)
alone_of (Some e) = Some (0, e)
alone_of None = None

-- f n values behind a count n
abbrev pub count_of : Option (ℕ × ℕ) → (ℕ → ℕ) → Option (ℕ × ℕ)
count_of (Some (n, e)) f = Some (f n, e)
count_of None f = None

-- what stands at p, behind a first byte, by its shape
unfoldable pub body_head : Shape → Bytes → ℕ → Option (ℕ × ℕ)
body_head Blob s p = alone_of (blob_end s p)
body_head Line s p = alone_of (line_end s p)
body_head Integer s p = alone_of (number_end s p)
body_head Empty s p = alone_of (crlf_end s p)
body_head Flag s p = alone_of (boolean_end s p)
body_head Verbatim s p = alone_of (verbatim_end s p)
body_head ListS s p = count_of (length_at s p) (λ n. n)
body_head Pairs s p = count_of (length_at s p) (λ n. n + n)
body_head PairsAndValue s p = count_of (length_at s p) (λ n. n + n + 1)
body_head Nothing s p = None

-- `$` or `*`: what RESP2's nulls begin with
abbrev pub null_byte_b : ℕ → Bool
null_byte_b b = cond (eqb b 36) true (eqb b 42)

-- one of them, and a minus behind it: of all values only RESP2's nulls begin so, for a length or a count has no sign
unfoldable pub null_word_b : Bytes → ℕ → Bool
null_word_b s at = both (null_byte_b (get_or s at 0)) (eqb (get_or s (at + 1) 0) 45)

-- the rest of such a null: 1 and CR LF
unfoldable pub one_end : Bytes → ℕ → Option ℕ
one_end s p = cond (eqb (get_or s p 0) 49) (crlf_end s (p + 1)) None

-- what stands at `at`, up to the first value inside it, by the kind of its first byte
unfoldable pub kind_head : Bytes → ℕ → Option (ℕ × ℕ)
kind_head s at = body_head (shape_of (kind_of (get_or s at 0))) s (at + 1)

-- a null of RESP2's
abbrev pub null_head : Bytes → ℕ → Option (ℕ × ℕ)
null_head s at = cond (null_word_b s at) (alone_of (one_end s (at + 2))) None

-- either of the two
unfoldable pub head_at : Bytes → ℕ → Option (ℕ × ℕ)
head_at s at = cond (null_word_b s at) (alone_of (one_end s (at + 2))) (kind_head s at)

-- go on with the values inside
abbrev pub head_then : Option (ℕ × ℕ) → (ℕ → ℕ → Option ℕ) → Option ℕ
head_then (Some (n, e)) f = f n e
head_then None f = None

-- n values, one after the other, by a reader of one
unfoldable pub iter : (ℕ → Option ℕ) → ℕ → ℕ → Option ℕ
iter f zero q = Some q
iter f (suc n) q = end_then (f q) (λ e. iter f n e)

-- the value at `at`, nesting at most d deep
unfoldable pub value_end : ℕ → Bytes → ℕ → Option ℕ
value_end zero s at = None
value_end (suc d) s at = head_then (head_at s at) (λ n e. iter (λ q. value_end d s q) n e)

-- n values from at on, each nesting at most d deep
unfoldable pub items_end : ℕ → Bytes → ℕ → ℕ → Option ℕ
items_end d s n at = iter (λ q. value_end d s q) n at

-- whether it ended at n
abbrev pub ends_at : Option ℕ → ℕ → Bool
ends_at (Some e) n = eqb e n
ends_at None n = false

-- exactly one value and nothing after it, within the limits
unfoldable pub is_value : Bytes → Bool
is_value s = cond (leb (length s) max_bytes) (ends_at (value_end max_depth s 0) (length s)) false
