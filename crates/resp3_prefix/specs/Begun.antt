-- How far a value stands in bytes that may end inside it: where it ends, or the least number of bytes that it still lacks, or that none begins so. Read off
-- the bytes from a place on, as the reader computes it. Assumes nothing: these are definitions.
-- Nobody has to believe them: specs/Law.antt shows that they agree with specs/Meaning.antt.
use Rattle.std.specs.Prelude.{cond, ℕ, zero, suc, ◌+◌, ◌*◌, ◌-◌, leb, eqb, length, get_or, take, drop, Result, Ok, Err}
use Rattle.buffer.specs.Same.{Bytes}
use Rattle.config.specs.Limits.{max_bytes, max_depth}
use Rattle.decimal.specs.Read.{lead, val_acc}
use Rattle.resp3.specs.declared.Kind.{Kind}
use Rattle.resp3.specs.declared.Kind.TheVariants.{BlobString, SimpleString, SimpleError, Number, Null, Double, Boolean, BlobError, VerbatimString}
use Rattle.resp3.specs.declared.Kind.TheVariants.{BigNumber, Array, Map, Set, Attribute, Push, Unknown}
use Rattle.resp3.specs.Kinds.{kind_of}
use Rattle.resp3.specs.Ends.{plain, null_word_b}
use Rattle.resp3_prefix.specs.declared.NotWhole.{NotWhole}
use Rattle.resp3_prefix.specs.declared.NotWhole.TheVariants.{Lacks, Never}
use Rattle.resp3_prefix.specs.declared.Count.{Count}
use Rattle.resp3_prefix.specs.declared.Count.TheVariants.{Whole, Nothing, Digits, Ended, Never as NoCount}

-- ---- sizes

-- so many bytes are lacking, where that is no more than a value may have
unfoldable pub lacking : ℕ → Result ℕ NotWhole
lacking k = cond (leb k max_bytes) (Err (Lacks k)) (Err Never)

-- k bytes, and n values behind them, each of three bytes at least (`_` CR LF)
unfoldable pub lacking_row : ℕ → ℕ → Result ℕ NotWhole
lacking_row k n = cond (leb k max_bytes) (cond (leb n max_bytes) (lacking (k + 3 * n)) (Err Never)) (Err Never)

-- the same before values that nest at most d deep, of which there are none for d = 0
unfoldable pub lacking_below : ℕ → ℕ → ℕ → Result ℕ NotWhole
lacking_below d k n = cond (eqb n 0) (Err (Lacks k)) (cond (eqb d 0) (Err Never) (lacking_row k n))

-- ---- pieces

-- CR LF, which is to stand at i
unfoldable pub crlf_begun : Bytes → ℕ → Result ℕ NotWhole
crlf_begun s i =
    cond (leb (length s) i) (Err (Lacks (i + 2 - length s)))
    (cond (eqb (get_or s i 0) 13)
    (cond (leb (length s) (i + 1)) (Err (Lacks 1)) (cond (eqb (get_or s (i + 1) 0) 10) (Ok (i + 2)) (Err Never)))
    (Err Never))

-- the CR LF behind a number v, which is to stand at i
unfoldable pub count_end : Bytes → ℕ → ℕ → Count
count_end s i v =
    cond (leb (length s) i) (Digits v)
    (cond (eqb (get_or s i 0) 13)
    (cond (leb (length s) (i + 1)) (Ended v) (cond (eqb (get_or s (i + 1) 0) 10) (Whole v (i + 2)) NoCount))
    NoCount)

-- a number of at most lim, and its CR LF: a `0` alone, or all the digits that stand there
unfoldable pub count_begun : ℕ → Bytes → ℕ → Count
count_begun lim s at =
    cond (leb (length s) at) Nothing
    (cond (eqb (get_or s at 0) 48) (count_end s (at + 1) 0)
    (cond (eqb (lead (drop at s)) 0) NoCount
    (cond (leb (val_acc 0 (drop at s)) lim) (count_end s (at + lead (drop at s)) (val_acc 0 (drop at s))) NoCount)))

-- ---- values with none inside

-- a line
unfoldable pub line_begun : Bytes → ℕ → Result ℕ NotWhole
line_begun s at = crlf_begun s (at + plain (drop at s))

-- bytes behind their length; without one the empty one is the shortest
abbrev pub blob_of : Bytes → Count → Result ℕ NotWhole
blob_of s (Whole n e) = crlf_begun s (e + n)
blob_of s Nothing = Err (Lacks 5)
blob_of s (Digits m) = Err (Lacks (m + 4))
blob_of s (Ended m) = Err (Lacks (m + 3))
blob_of s NoCount = Err Never

unfoldable pub blob_begun : Bytes → ℕ → Result ℕ NotWhole
blob_begun s at = blob_of s (count_begun max_bytes s at)

-- the same behind `$`, where RESP2's null is the shortest: -1 and CR LF
unfoldable pub string_begun : Bytes → ℕ → Result ℕ NotWhole
string_begun s at = cond (leb (length s) at) (Err (Lacks 4)) (blob_begun s at)

-- the rest of that null behind its minus: 1 and CR LF
unfoldable pub one_begun : Bytes → ℕ → Result ℕ NotWhole
one_begun s at = cond (leb (length s) at) (Err (Lacks 3)) (cond (eqb (get_or s at 0) 49) (crlf_begun s (at + 1)) (Err Never))

-- the fourth byte, if it is there, is a colon
unfoldable pub verbatim_body : Bytes → ℕ → ℕ → Result ℕ NotWhole
verbatim_body s n e =
    cond (leb 4 n) (cond (leb (length s) (e + 3)) (crlf_begun s (e + n)) (cond (eqb (get_or s (e + 3) 0) 58) (crlf_begun s (e + n)) (Err Never))) (Err Never)

-- a length of four at least, of which so many digits stand there: 1, 2 and 3 need one digit more
unfoldable pub verbatim_digits : ℕ → Result ℕ NotWhole
verbatim_digits m = cond (leb 4 m) (Err (Lacks (m + 4))) (cond (eqb m 0) (Err Never) (Err (Lacks (10 * m + 5))))

abbrev pub verbatim_of : Bytes → Count → Result ℕ NotWhole
verbatim_of s (Whole n e) = verbatim_body s n e
verbatim_of s Nothing = Err (Lacks 9)
verbatim_of s (Digits m) = verbatim_digits m
verbatim_of s (Ended m) = cond (leb 4 m) (Err (Lacks (m + 3))) (Err Never)
verbatim_of s NoCount = Err Never

unfoldable pub verbatim_begun : Bytes → ℕ → Result ℕ NotWhole
verbatim_begun s at = verbatim_of s (count_begun max_bytes s at)

-- digits, and CR LF
abbrev pub digits_of : Count → Result ℕ NotWhole
digits_of (Whole n e) = Ok e
digits_of Nothing = Err (Lacks 3)
digits_of (Digits m) = Err (Lacks 2)
digits_of (Ended m) = Err (Lacks 1)
digits_of NoCount = Err Never

-- the same of a number that is not 0
abbrev pub minus_of : Count → Result ℕ NotWhole
minus_of (Whole n e) = cond (eqb n 0) (Err Never) (Ok e)
minus_of Nothing = Err (Lacks 3)
minus_of (Digits m) = cond (eqb m 0) (Err Never) (Err (Lacks 2))
minus_of (Ended m) = cond (eqb m 0) (Err Never) (Err (Lacks 1))
minus_of NoCount = Err Never

-- with a minus at most 2^63 and not 0; without one below 2^63
unfoldable pub integer_begun : Bytes → ℕ → Result ℕ NotWhole
integer_begun s at =
    cond (eqb (get_or s at 0) 45) (minus_of (count_begun 9223372036854775808 s (at + 1))) (digits_of (count_begun 9223372036854775807 s at))

-- t or f, and CR LF
unfoldable pub boolean_begun : Bytes → ℕ → Result ℕ NotWhole
boolean_begun s at =
    cond (leb (length s) at) (Err (Lacks 3))
    (cond (eqb (get_or s at 0) 116) (crlf_begun s (at + 1)) (cond (eqb (get_or s at 0) 102) (crlf_begun s (at + 1)) (Err Never)))

-- ---- values with others inside

-- a value with none inside it
abbrev pub alone_of : Result ℕ NotWhole → Result (ℕ × ℕ) NotWhole
alone_of (Ok e) = Ok (0, e)
alone_of (Err why) = Err why

-- values behind a count n, a * n + b of them, each nesting at most d deep
abbrev pub row_of : ℕ → ℕ → ℕ → Count → Result (ℕ × ℕ) NotWhole
row_of d a b (Whole n e) = Ok (a * n + b, e)
row_of d a b Nothing = alone_of (lacking_below d 3 b)
row_of d a b (Digits m) = alone_of (lacking_below d 2 (a * m + b))
row_of d a b (Ended m) = alone_of (lacking_below d 1 (a * m + b))
row_of d a b NoCount = Err Never

-- what stands at p, behind a first byte, by its kind
unfoldable pub body_begun : ℕ → Kind → Bytes → ℕ → Result (ℕ × ℕ) NotWhole
body_begun d BlobString s p = alone_of (string_begun s p)
body_begun d SimpleString s p = alone_of (line_begun s p)
body_begun d SimpleError s p = alone_of (line_begun s p)
body_begun d Number s p = alone_of (integer_begun s p)
body_begun d Null s p = alone_of (crlf_begun s p)
body_begun d Double s p = alone_of (line_begun s p)
body_begun d Boolean s p = alone_of (boolean_begun s p)
body_begun d BlobError s p = alone_of (blob_begun s p)
body_begun d VerbatimString s p = alone_of (verbatim_begun s p)
body_begun d BigNumber s p = alone_of (line_begun s p)
body_begun d Array s p = row_of d 1 0 (count_begun max_bytes s p)
body_begun d Map s p = row_of d 2 0 (count_begun max_bytes s p)
body_begun d Set s p = row_of d 1 0 (count_begun max_bytes s p)
body_begun d Attribute s p = row_of d 2 1 (count_begun max_bytes s p)
body_begun d Push s p = row_of d 1 0 (count_begun max_bytes s p)
body_begun d Unknown s p = Err Never

-- what stands at `at`, up to the first value inside it, by the kind of its first byte
unfoldable pub kind_begun : ℕ → Bytes → ℕ → Result (ℕ × ℕ) NotWhole
kind_begun d s at = cond (leb (length s) at) (Err (Lacks 3)) (body_begun d (kind_of (get_or s at 0)) s (at + 1))

-- a null of RESP2's
abbrev pub null_begun : Bytes → ℕ → Result (ℕ × ℕ) NotWhole
null_begun s at = cond (null_word_b s at) (alone_of (one_begun s (at + 2))) (Err Never)

-- either of the two
unfoldable pub head_begun : ℕ → Bytes → ℕ → Result (ℕ × ℕ) NotWhole
head_begun d s at = cond (null_word_b s at) (alone_of (one_begun s (at + 2))) (kind_begun d s at)

-- go on with the values inside
abbrev pub head_then : Result (ℕ × ℕ) NotWhole → (ℕ → ℕ → Result ℕ NotWhole) → Result ℕ NotWhole
head_then (Ok (n, e)) f = f n e
head_then (Err why) f = Err why

-- go on behind a value, before n others
abbrev pub begun_then : Result ℕ NotWhole → ℕ → (ℕ → Result ℕ NotWhole) → Result ℕ NotWhole
begun_then (Ok e) n f = f e
begun_then (Err (Lacks k)) n f = lacking_row k n
begun_then (Err Never) n f = Err Never

-- n values, one after the other, by a reader of one
unfoldable pub iter : (ℕ → Result ℕ NotWhole) → ℕ → ℕ → Result ℕ NotWhole
iter f zero q = Ok q
iter f (suc n) q = begun_then (f q) n (λ e. iter f n e)

-- the value at `at`, nesting at most d deep
unfoldable pub value_begun : ℕ → Bytes → ℕ → Result ℕ NotWhole
value_begun zero s at = Err Never
value_begun (suc d) s at = head_then (head_begun d s at) (λ n e. iter (λ q. value_begun d s q) n e)

-- n values from at on, each nesting at most d deep
unfoldable pub row_begun : ℕ → Bytes → ℕ → ℕ → Result ℕ NotWhole
row_begun d s n at = iter (λ q. value_begun d s q) n at

-- ---- the verdict

-- the limit of bytes, where n were received
abbrev pub within : ℕ → Result ℕ NotWhole → Result ℕ NotWhole
within n (Ok e) = Ok e
within n (Err (Lacks k)) = cond (leb (n + k) max_bytes) (Err (Lacks k)) (Err Never)
within n (Err Never) = Err Never

-- of bytes received so far; no value needs more than the first 16 MiB of them
unfoldable pub first_value : Bytes → Result ℕ NotWhole
first_value s = within (length s) (value_begun max_depth (take max_bytes s) 0)
