-- Worked cases of beginnings, by computing: each kind cut at each kind of place, the limits of numbers, depth and bytes. They lean on Begun.antt alone, so that
-- a wrong definition there fails here first. Assumes nothing.
use Rattle.std.specs.Prelude.{◌≡◌, refl, [], ◌++◌, ℕ, zero, suc, Ok, Err}
use Rattle.buffer.specs.Ascii.{ascii}
use Rattle.buffer.specs.Same.{Bytes}
use Rattle.resp3.specs.Kinds.{kind_of}
use Rattle.resp3.specs.Value.{plain_b}
use Rattle.resp3.specs.Ends.{plain, null_word_b}
use Rattle.resp3_prefix.specs.declared.NotWhole.TheVariants.{Lacks, Never}
use Rattle.resp3_prefix.specs.Begun.{lacking, lacking_row, lacking_below, crlf_begun, count_end, count_begun, line_begun, blob_begun, verbatim_body}
use Rattle.resp3_prefix.specs.Begun.{string_begun, one_begun, verbatim_digits, verbatim_begun, integer_begun, boolean_begun, body_begun, kind_begun}
use Rattle.resp3_prefix.specs.Begun.{head_begun, iter, value_begun, row_begun, first_value}

-- one name that opens the reader
unfoldable case-defs : Unit {0}
unfolding
    kind_of plain_b plain lacking lacking_row lacking_below crlf_begun count_end count_begun line_begun blob_begun string_begun one_begun verbatim_body verbatim_digits
    verbatim_begun integer_begun boolean_begun body_begun null_word_b kind_begun head_begun iter value_begun row_begun first_value
case-defs = tt

-- nothing yet: `_` CR LF is the shortest
at-start : first_value [] ≡ Err (Lacks 3)
unfolding case-defs
at-start = refl

-- whole, with more behind it
whole : first_value (ascii "*2\r\n$1\r\na\r\n_\r\n+x") ≡ Ok 14
unfolding case-defs
whole = refl

-- a byte that begins no kind
no_kind : first_value (ascii "x") ≡ Err Never
unfolding case-defs
no_kind = refl

-- CR needs LF, and a line ends in both
after-cr : first_value (ascii "+a\r") ≡ Err (Lacks 1)
unfolding case-defs
after-cr = refl

cr-without-lf : first_value (ascii "+a\rb") ≡ Err Never
unfolding case-defs
cr-without-lf = refl

lf-alone : first_value (ascii "+a\n") ≡ Err Never
unfolding case-defs
lf-alone = refl

-- a length of which digits stand there: the shortest that begins so
length-begun : first_value (ascii "$1") ≡ Err (Lacks 5)
unfolding case-defs
length-begun = refl

-- behind `$` alone RESP2's null is the shortest, and behind `*` the array of none; a blob error has no such null
nothing-begun : (first_value (ascii "$") ≡ Err (Lacks 4)) × (first_value (ascii "*") ≡ Err (Lacks 3)) × (first_value (ascii "!") ≡ Err (Lacks 5))
unfolding case-defs
nothing-begun = (refl, refl, refl)

-- behind a minus only that null
null-begun :
    (first_value (ascii "$-") ≡ Err (Lacks 3)) × (first_value (ascii "$-1") ≡ Err (Lacks 2)) × (first_value (ascii "*-1\r") ≡ Err (Lacks 1))
    × (first_value (ascii "*-1\r\n_") ≡ Ok 5)
unfolding case-defs
null-begun = (refl, refl, refl, refl)

no-other-null :
    (first_value (ascii "$-2") ≡ Err Never) × (first_value (ascii "*-0") ≡ Err Never) × (first_value (ascii "$-01") ≡ Err Never)
    × (first_value (ascii "$-10") ≡ Err Never)
    × (first_value (ascii "!-") ≡ Err Never) × (first_value (ascii "~-") ≡ Err Never)
unfolding case-defs
no-other-null = (refl, refl, refl, refl, refl, refl)

bytes-begun : first_value (ascii "$3\r\nab") ≡ Err (Lacks 3)
unfolding case-defs
bytes-begun = refl

leading-zero : first_value (ascii "$01") ≡ Err Never
unfolding case-defs
leading-zero = refl

-- 16 MiB is 16777216: no blob has so many bytes beside its frame, and no length is longer
too_long : first_value (ascii "$16777216") ≡ Err Never
unfolding case-defs
too_long = refl

longest-blob : first_value (ascii "$16777203\r\n") ≡ Err (Lacks 16777205)
unfolding case-defs
longest-blob = refl

one-too-long : first_value (ascii "$16777204\r\n") ≡ Err Never
unfolding case-defs
one-too-long = refl

-- integers of 64 bits: 2^63 - 1 may go on so, 2^63 only behind a minus; no -0
largest : first_value (ascii ":9223372036854775807") ≡ Err (Lacks 2)
unfolding case-defs
largest = refl

too_large : first_value (ascii ":9223372036854775808") ≡ Err Never
unfolding case-defs
too_large = refl

smallest : first_value (ascii ":-9223372036854775808") ≡ Err (Lacks 2)
unfolding case-defs
smallest = refl

minus-zero : first_value (ascii ":-0") ≡ Err Never
unfolding case-defs
minus-zero = refl

-- a verbatim string has four bytes at least, the fourth a colon; 1 needs a digit more
verbatim-one : first_value (ascii "=1") ≡ Err (Lacks 15)
unfolding case-defs
verbatim-one = refl

verbatim-three : first_value (ascii "=3\r") ≡ Err Never
unfolding case-defs
verbatim-three = refl

no-colon : first_value (ascii "=4\r\ntxt;") ≡ Err Never
unfolding case-defs
no-colon = refl

-- values inside, three bytes each at least; an attribute is followed by one
inside : first_value (ascii "*3\r\n:1\r\n%1") ≡ Err (Lacks 11)
unfolding case-defs
inside = refl

attribute-begun : first_value (ascii "|0\r\n") ≡ Err (Lacks 3)
unfolding case-defs
attribute-begun = refl

-- as many values as do not fit in 16 MiB
too_many : first_value (ascii "*5592403\r\n") ≡ Err Never
unfolding case-defs
too_many = refl

-- sixteen levels, the outermost among them, and no more (rule V6)
abbrev arrays : ℕ → Bytes → Bytes
arrays zero r = r
arrays (suc n) r = ascii "*1\r\n" ++ arrays n r

depth-16 : first_value (arrays 15 []) ≡ Err (Lacks 3)
unfolding case-defs
depth-16 = refl

pub depth-17 : first_value (arrays 16 []) ≡ Err Never
unfolding case-defs
depth-17 = refl

-- at the deepest level only a count of 0
deepest-none : first_value (arrays 15 (ascii "*0")) ≡ Err (Lacks 2)
unfolding case-defs
deepest-none = refl

deepest-attribute : first_value (arrays 15 (ascii "|")) ≡ Err Never
unfolding case-defs
deepest-attribute = refl
