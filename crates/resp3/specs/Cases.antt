-- Cases on reading: sixteen levels and seventeen; and what part V of docs/BEHAVIOUR.md rules out. Assumes nothing.
use Rattle.std.specs.Prelude.{◌≡◌, refl, true, false, ℕ, zero, suc}
use Rattle.decimal.specs.Digits.{digits}
use Rattle.decimal.specs.Read.{crlf_b, ended_def, fin_def, num_def}
use Rattle.buffer.specs.Ascii.{ascii}
use Rattle.resp3.specs.Kinds.{kind_of}
use Rattle.resp3.specs.Value.{Value, blob_null, array_null, null_as, null, array, map, none, more, nil, pair, depth, plain_b, encode}
use Rattle.resp3.specs.Ends.{length_at, crlf_end, plain, line_end, blob_end, verbatim_end, number_end, boolean_end, iter, body_head, null_word_b, one_end, kind_head}
use Rattle.resp3.specs.Ends.{head_at, value_end, is_value}
use Rattle.resp3.specs.Decode.{values_at, pairs_at, body_of, iter_of, value_of, decode}

-- opens the reading and the writing of values
unfoldable read : Unit {0}
unfolding encode digits is_value value_end head_at kind_head one_end null_word_b body_head iter boolean_end number_end verbatim_end blob_end line_end plain plain_b crlf_end
    length_at kind_of num_def fin_def ended_def crlf_b
read = tt

-- v inside n arrays of one element each
abbrev pub wrapped : ℕ → Value → Value
wrapped zero v = v
wrapped (suc n) v = array (more (wrapped n v) none)

-- `_` inside n arrays
abbrev pub nested : ℕ → Value
nested n = wrapped n null

-- sixteen levels are read
pub depth-16-read : (depth (nested 15) ≡ 16) × (is_value (encode (nested 15)) ≡ true)
unfolding read
depth-16-read = (refl, refl)

-- seventeen are not
pub depth-17-refused : (depth (nested 16) ≡ 17) × (is_value (encode (nested 16)) ≡ false)
unfolding read
depth-17-refused = (refl, refl)

-- a null of RESP2's is one level too
pub depth-of-nulls : (is_value (encode (wrapped 15 (null_as array_null))) ≡ true) × (is_value (encode (wrapped 16 (null_as array_null))) ≡ false)
unfolding read
depth-of-nulls = (refl, refl)

-- an attribute's value is a level below it
pub depth-of-attributes : is_value (ascii "|0\r\n|0\r\n|0\r\n|0\r\n|0\r\n|0\r\n|0\r\n|0\r\n|0\r\n|0\r\n|0\r\n|0\r\n|0\r\n|0\r\n|0\r\n|0\r\n_\r\n") ≡ false
unfolding read
depth-of-attributes = refl

-- no -0
pub minus-zero : is_value (ascii ":-0\r\n") ≡ false
unfolding read
minus-zero = refl

-- no leading zero, in an integer or a length
pub leading-zero : (is_value (ascii ":07\r\n") ≡ false) × (is_value (ascii "$03\r\nabc\r\n") ≡ false)
unfolding read
leading-zero = (refl, refl)

-- no plus sign, in an integer or a count
pub plus-sign : (is_value (ascii ":+7\r\n") ≡ false) × (is_value (ascii "*+0\r\n") ≡ false)
unfolding read
plus-sign = (refl, refl)

-- -2^63 and 2^63 - 1 are read, one more either way is not
pub integer-bounds :
    (is_value (ascii ":-9223372036854775808\r\n") ≡ true) × (is_value (ascii ":9223372036854775807\r\n") ≡ true)
    × (is_value (ascii ":-9223372036854775809\r\n") ≡ false) × (is_value (ascii ":9223372036854775808\r\n") ≡ false)
unfolding read
integer-bounds = (refl, refl, refl, refl)

-- a verbatim string has a colon behind its format, and so at least four bytes
pub no-colon : (is_value (ascii "=4\r\ntxt:\r\n") ≡ true) × (is_value (ascii "=4\r\ntxt.\r\n") ≡ false) × (is_value (ascii "=3\r\ntxt\r\n") ≡ false)
unfolding read
no-colon = (refl, refl, refl)

-- a length of 2^64 + 1 is not a length of 1
pub long-length : is_value (ascii "$18446744073709551617\r\na\r\n") ≡ false
unfolding read
long-length = refl

-- RESP2's two nulls are nulls, each in its spelling, and no blob string and no array
pub resp2-nulls :
    (is_value (ascii "$-1\r\n") ≡ true) × (decode (ascii "$-1\r\n") ≡ null_as blob_null)
    × (is_value (ascii "*-1\r\n") ≡ true) × (decode (ascii "*-1\r\n") ≡ null_as array_null)
unfolding read decode value_of
resp2-nulls = (refl, refl, refl, refl)

-- inside an array and a map too
pub resp2-nulls-inside :
    (encode (array (more (null_as blob_null) (more (null_as array_null) (more null none)))) ≡ ascii "*3\r\n$-1\r\n*-1\r\n_\r\n")
    × (is_value (ascii "*3\r\n$-1\r\n*-1\r\n_\r\n") ≡ true)
    × (decode (ascii "*3\r\n$-1\r\n*-1\r\n_\r\n") ≡ array (more (null_as blob_null) (more (null_as array_null) (more null none))))
    × (is_value (ascii "%1\r\n$-1\r\n*-1\r\n") ≡ true)
    × (decode (ascii "%1\r\n$-1\r\n*-1\r\n") ≡ map (pair (null_as blob_null) (null_as array_null) nil))
unfolding read decode value_of body_of values_at pairs_at iter_of
resp2-nulls-inside = (refl, refl, refl, refl, refl)

-- nothing else with a minus is: no other number and no other kind
pub no-other-nulls :
    (is_value (ascii "$-01\r\n") ≡ false) × (is_value (ascii "$-2\r\n") ≡ false) × (is_value (ascii "*-10\r\n") ≡ false) × (is_value (ascii "*-0\r\n") ≡ false)
    × (is_value (ascii "~-1\r\n") ≡ false) × (is_value (ascii "%-1\r\n") ≡ false) × (is_value (ascii "!-1\r\n") ≡ false) × (is_value (ascii "=-1\r\n") ≡ false)
    × (is_value (ascii ">-1\r\n") ≡ false)
unfolding read
no-other-nulls = (refl, refl, refl, refl, refl, refl, refl, refl, refl)

-- nor is one cut short
pub cut-nulls :
    (is_value (ascii "$-1\r") ≡ false) × (is_value (ascii "$-1") ≡ false) × (is_value (ascii "*-") ≡ false) × (is_value (ascii "$-1\n") ≡ false)
unfolding read
cut-nulls = (refl, refl, refl, refl)

-- a streamed string
pub not-resp3 : is_value (ascii "$?\r\n") ≡ false
unfolding read
not-resp3 = refl

-- nothing may follow
pub trailing : is_value (ascii "_\r\n_\r\n") ≡ false
unfolding read
trailing = refl
