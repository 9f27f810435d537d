-- What is asked of a RESP3 value: its kind, whether it is an error or a null, its integer, its bytes, its elements; and where a
-- cursor stands in a list. Assumes nothing: these are the definitions that a reader has to believe.
-- A value under `|` is of the kind `attribute`, and so none of what is asked for.
use Rattle.std.specs.Prelude.{◌≡◌, Bool, true, cond, [], ◌≤◌, eqb, length, drop, ℤ, Option, Some, None}
use Rattle.std.proofs.Math.Option.{some}
use Rattle.std.proofs.Math.Option as option
use Rattle.buffer.specs.Same.{Bytes}
use Rattle.config.specs.Limits.{max_depth}
use Rattle.resp3.specs.declared.Kind.{Kind}
use Rattle.resp3.specs.declared.Kind.TheVariants.{BlobString, SimpleString, SimpleError, Number, Null, Double, Boolean, BlobError, VerbatimString}
use Rattle.resp3.specs.declared.Kind.TheVariants.{BigNumber, Array, Map, Set, Attribute, Push}
use Rattle.resp3.specs.Kinds.{byte_of}
use Rattle.resp3.specs.Value.{Value, Values, blob_string, simple_string, simple_error, number, null_as, double, boolean, blob_error, verbatim_string}
use Rattle.resp3.specs.Value.{big_number, array, map, set, attribute, push, count, deepest, Valids, encs}
use Rattle.resp3.specs.Rows.{tail_of}
use Rattle.resp3_element.specs.declared.Cursor.{Cursor}

-- a value's kind; a null is of the kind Null in whatever spelling
abbrev pub value_kind : Value → Kind
value_kind (blob_string xs) = BlobString
value_kind (simple_string xs) = SimpleString
value_kind (simple_error xs) = SimpleError
value_kind (number z) = Number
value_kind (null_as q) = Null
value_kind (double xs) = Double
value_kind (boolean b) = Boolean
value_kind (blob_error xs) = BlobError
value_kind (verbatim_string f xs) = VerbatimString
value_kind (big_number xs) = BigNumber
value_kind (array vs) = Array
value_kind (map ps) = Map
value_kind (set vs) = Set
value_kind (attribute ps v) = Attribute
value_kind (push vs) = Push

-- whether it is of the kind k (kinds are told apart by their bytes)
abbrev pub of_kind : Kind → Value → Bool
of_kind k v = eqb (byte_of (value_kind v)) (byte_of k)

-- a server error: `-` or `!`
abbrev pub is_error : Value → Bool
is_error v = cond (of_kind SimpleError v) true (of_kind BlobError v)

-- a null: `_`, `$-1` or `*-1`
abbrev pub is_null : Value → Bool
is_null v = of_kind Null v

-- the integer of `:`
abbrev pub integer_of : Value → Option ℤ
integer_of (blob_string xs) = None
integer_of (simple_string xs) = None
integer_of (simple_error xs) = None
integer_of (number z) = Some z
integer_of (null_as q) = None
integer_of (double xs) = None
integer_of (boolean b) = None
integer_of (blob_error xs) = None
integer_of (verbatim_string f xs) = None
integer_of (big_number xs) = None
integer_of (array vs) = None
integer_of (map ps) = None
integer_of (set vs) = None
integer_of (attribute ps v) = None
integer_of (push vs) = None

-- the bytes of `$`; a null has none
abbrev pub blob_of : Value → Bytes
blob_of (blob_string xs) = xs
blob_of (simple_string xs) = []
blob_of (simple_error xs) = []
blob_of (number z) = []
blob_of (null_as q) = []
blob_of (double xs) = []
blob_of (boolean b) = []
blob_of (blob_error xs) = []
blob_of (verbatim_string f xs) = []
blob_of (big_number xs) = []
blob_of (array vs) = []
blob_of (map ps) = []
blob_of (set vs) = []
blob_of (attribute ps v) = []
blob_of (push vs) = []

-- the elements of `*`; a null has none
abbrev pub array_of : Value → option.Option Values
array_of (blob_string xs) = option.none
array_of (simple_string xs) = option.none
array_of (simple_error xs) = option.none
array_of (number z) = option.none
array_of (null_as q) = option.none
array_of (double xs) = option.none
array_of (boolean b) = option.none
array_of (blob_error xs) = option.none
array_of (verbatim_string f xs) = option.none
array_of (big_number xs) = option.none
array_of (array vs) = some vs
array_of (map ps) = option.none
array_of (set vs) = option.none
array_of (attribute ps v) = option.none
array_of (push vs) = option.none

-- the elements of `>`
abbrev pub push_of : Value → option.Option Values
push_of (blob_string xs) = option.none
push_of (simple_string xs) = option.none
push_of (simple_error xs) = option.none
push_of (number z) = option.none
push_of (null_as q) = option.none
push_of (double xs) = option.none
push_of (boolean b) = option.none
push_of (blob_error xs) = option.none
push_of (verbatim_string f xs) = option.none
push_of (big_number xs) = option.none
push_of (array vs) = option.none
push_of (map ps) = option.none
push_of (set vs) = option.none
push_of (attribute ps v) = option.none
push_of (push vs) = some vs

-- the cursor's element lies in the slice
pub record Inside (s : Bytes) (c : Cursor) : Type 0 where
  pub order : c.at ≤ c.end
  pub within : c.end ≤ length s

-- The cursor stands before the values vs, the last elements of the list that s is: from `at` on s is vs, from `end` on it is
-- vs without its first.
pub record Stands (s : Bytes) (c : Cursor) (vs : Values) : Type 0 where
  pub inside : Inside s c
  pub left : c.left ≡ count vs
  pub ok : Valids vs
  pub deep : deepest vs ≤ max_depth
  pub here : drop c.at s ≡ encs vs []
  pub after : drop c.end s ≡ encs (tail_of vs) []

-- the answer is a cursor before the elements, where there are elements
abbrev pub Holds : Bytes → Option Cursor → option.Option Values → Type 0
Holds s (Some c) (some vs) = Stands s c vs
Holds s (Some c) option.none = ⊥
Holds s None (some vs) = ⊥
Holds s None option.none = Unit
