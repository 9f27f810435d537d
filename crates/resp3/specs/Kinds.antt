-- RESP3's kinds: the byte that a value of each begins with, and how each is written. Assumes nothing: these are definitions.
use Rattle.std.specs.Prelude.{cond, List, [], ◌∷◌, ℕ, eqb}
use Prim.Native.Char.{code}
use Rattle.resp3.specs.declared.Kind.{Kind}
use Rattle.resp3.specs.declared.Kind.TheVariants.{BlobString, SimpleString, SimpleError, Number, Null, Double, Boolean, BlobError}
use Rattle.resp3.specs.declared.Kind.TheVariants.{VerbatimString, BigNumber, Array, Map, Set, Attribute, Push, Unknown}
use Rattle.resp3.specs.declared.Shape.{Shape}
use Rattle.resp3.specs.declared.Shape.TheVariants.{Blob, Line, Integer, Empty, Flag, Verbatim, List as ListS, Pairs, PairsAndValue, Nothing}

-- the first byte; `Unknown` is no kind, and 256 is no byte
abbrev pub byte_of : Kind → ℕ
byte_of BlobString = code "$"
byte_of SimpleString = code "+"
byte_of SimpleError = code "-"
byte_of Number = code ":"
byte_of Null = code "_"
byte_of Double = code ","
byte_of Boolean = code "#"
byte_of BlobError = code "!"
byte_of VerbatimString = code "="
byte_of BigNumber = code "("
byte_of Array = code "*"
byte_of Map = code "%"
byte_of Set = code "~"
byte_of Attribute = code "|"
byte_of Push = code ">"
byte_of Unknown = 256

-- what follows the first byte
abbrev pub shape_of : Kind → Shape
shape_of BlobString = Blob  -- length, CR LF, bytes, CR LF
shape_of SimpleString = Line  -- bytes without CR or LF, CR LF
shape_of SimpleError = Line
shape_of Number = Integer  -- integer, CR LF
shape_of Null = Empty  -- CR LF
shape_of Double = Line
shape_of Boolean = Flag  -- t or f, CR LF
shape_of BlobError = Blob
shape_of VerbatimString = Verbatim  -- as a blob, with a colon as its fourth byte
shape_of BigNumber = Line
shape_of Array = ListS  -- count, CR LF, as many values
shape_of Map = Pairs  -- count, CR LF, twice as many values
shape_of Set = ListS
shape_of Attribute = PairsAndValue  -- count, CR LF, twice as many values, one value more
shape_of Push = ListS
shape_of Unknown = Nothing

-- all kinds, in the order of rule V1
abbrev pub kinds : List Kind
kinds =
    BlobString ∷ SimpleString ∷ SimpleError ∷ Number ∷ Null ∷ Double ∷ Boolean ∷ BlobError ∷ VerbatimString ∷ BigNumber ∷ Array ∷ Map ∷ Set ∷ Attribute ∷ Push
    ∷ []

-- the first of them that begins with b
abbrev pub pick : ℕ → List Kind → Kind
pick b [] = Unknown
pick b (k ∷ ks) = cond (eqb b (byte_of k)) k (pick b ks)

-- the kind that begins with the byte b
unfoldable pub kind_of : ℕ → Kind
kind_of b = pick b kinds
