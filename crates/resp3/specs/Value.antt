-- RESP3's values, and how each is written. Assumes nothing: these are the definitions that a reader has to believe.
-- They follow the RESP3 specification, cut and sharpened by part V of docs/BEHAVIOUR.md.
use Rattle.std.specs.Prelude.{◌≡◌, Bool, true, false, cond, not, [], ◌∷◌, ◌++◌, ℕ, suc, ◌≤◌, ◌<◌, max, eqb, length, ℤ, pos, negsuc}
use Prim.Native.Char.{code}
use Rattle.buffer.specs.Same.{Bytes}
use Rattle.config.specs.Limits.{max_bytes, max_depth}
use Rattle.decimal.specs.Digits.{digits}
use Rattle.resp3.specs.declared.Kind.TheVariants.{BlobString, SimpleString, SimpleError, Number, Null, Double, Boolean, BlobError}
use Rattle.resp3.specs.declared.Kind.TheVariants.{VerbatimString, BigNumber, Array, Map, Set, Attribute, Push}
use Rattle.resp3.specs.Kinds.{byte_of}

-- how a null is spelled: in RESP3's way, or in one of RESP2's two, which an old server sends (request 1)
pub data Spelling : Type 0 where
  underscore : Spelling  -- <_>
  blob_null : Spelling  -- <$-1>
  array_null : Spelling  -- <*-1>

-- The 15 kinds, by RESP3's names, each with what it holds; beside it RESP3's form, with lines that end in CR LF shown as <..>.
-- Doubles and big numbers are kept as text, since nothing reads the number in them (rule V3).
mutual
  pub data Value : Type 0 where
    blob_string : Bytes → Value  -- <$length> <bytes>
    simple_string : Bytes → Value  -- <+text>
    simple_error : Bytes → Value  -- <-text>
    number : ℤ → Value  -- <:integer>
    null_as : Spelling → Value  -- <_>, <$-1> or <*-1>
    double : Bytes → Value  -- <,text>
    boolean : Bool → Value  -- <#t> or <#f>
    blob_error : Bytes → Value  -- <!length> <bytes>
    verbatim_string : Bytes → Bytes → Value  -- <=length> <format:text>; the length is that of format, colon and text
    big_number : Bytes → Value  -- <(text>
    array : Values → Value  -- <*count> and as many values
    map : Pairs → Value  -- <%count> and as many pairs, each a key and its value
    set : Values → Value  -- <~count> and as many values
    attribute : Pairs → Value → Value  -- <|count> and as many pairs, then the value that they speak of
    push : Values → Value  -- <>count> and as many values

  -- values one after the other
  pub data Values : Type 0 where
    none : Values
    more : Value → Values → Values

  -- keys with their values
  pub data Pairs : Type 0 where
    nil : Pairs
    pair : Value → Value → Pairs → Pairs

-- RESP3's own null, `_`
abbrev pub null : Value
null = null_as underscore

-- how many values
abbrev pub count : Values → ℕ
count none = 0
count (more v vs) = suc (count vs)

-- how many pairs
abbrev pub count_pairs : Pairs → ℕ
count_pairs nil = 0
count_pairs (pair k v ps) = suc (count_pairs ps)

-- How many levels there are below a value; the value itself is one level more.
abbrev mutual
  pub below : Value → ℕ
  below (blob_string xs) = 0
  below (simple_string xs) = 0
  below (simple_error xs) = 0
  below (number z) = 0
  below (null_as q) = 0
  below (double xs) = 0
  below (boolean b) = 0
  below (blob_error xs) = 0
  below (verbatim_string f xs) = 0
  below (big_number xs) = 0
  below (array vs) = deepest vs
  below (map ps) = deepest_pairs ps
  below (set vs) = deepest vs
  below (attribute ps v) = max (deepest_pairs ps) (suc (below v))
  below (push vs) = deepest vs

  -- of values in a row
  pub deepest : Values → ℕ
  deepest none = 0
  deepest (more v vs) = max (suc (below v)) (deepest vs)

  -- of keys and their values
  pub deepest_pairs : Pairs → ℕ
  deepest_pairs nil = 0
  deepest_pairs (pair k v ps) = max (suc (below k)) (max (suc (below v)) (deepest_pairs ps))

-- how deep a value nests, the outermost counting 1
abbrev pub depth : Value → ℕ
depth v = suc (below v)

-- neither CR nor LF
unfoldable pub plain_b : ℕ → Bool
plain_b x = cond (eqb x (code "\r")) false (not (eqb x (code "\n")))

-- a line's body: no CR and no LF
unfoldable pub one_line : Bytes → Bool
one_line [] = true
one_line (x ∷ xs) = cond (plain_b x) (one_line xs) false

-- 64 bits signed: -2^63 to 2^63 - 1 (`negsuc n` is -1 - n)
abbrev pub Fits64 : ℤ → Type 0
Fits64 (pos n) = n < 9223372036854775808
Fits64 (negsuc n) = n < 9223372036854775808

-- Which values there are: integers fit 64 bits, line bodies hold no CR or LF, a format is three bytes.
-- Nothing bounds lengths and counts.
abbrev mutual
  pub Valid : Value → Type 0
  Valid (blob_string xs) = Unit
  Valid (simple_string xs) = one_line xs ≡ true
  Valid (simple_error xs) = one_line xs ≡ true
  Valid (number z) = Fits64 z
  Valid (null_as q) = Unit
  Valid (double xs) = one_line xs ≡ true
  Valid (boolean b) = Unit
  Valid (blob_error xs) = Unit
  Valid (verbatim_string f xs) = length f ≡ 3
  Valid (big_number xs) = one_line xs ≡ true
  Valid (array vs) = Valids vs
  Valid (map ps) = ValidPairs ps
  Valid (set vs) = Valids vs
  Valid (attribute ps v) = ValidPairs ps × Valid v
  Valid (push vs) = Valids vs

  -- each of a row
  pub Valids : Values → Type 0
  Valids none = Unit
  Valids (more v vs) = Valid v × Valids vs

  -- each key and each value
  pub ValidPairs : Pairs → Type 0
  ValidPairs nil = Unit
  ValidPairs (pair k v ps) = Valid k × Valid v × ValidPairs ps

-- CR LF, with r after it
abbrev pub crlf : Bytes → Bytes
crlf r = code "\r" ∷ code "\n" ∷ r

-- a length or a count: its digits (no sign, no leading zero) and CR LF
abbrev pub counted : ℕ → Bytes → Bytes
counted n r = digits n ++ crlf r

-- bytes behind their length, with CR LF after them
abbrev pub framed : Bytes → Bytes → Bytes
framed xs r = counted (length xs) (xs ++ crlf r)

-- an integer: a minus where it is below 0, and its digits
abbrev pub integer : ℤ → Bytes
integer (pos n) = digits n
integer (negsuc n) = code "-" ∷ digits (suc n)

-- a null in its spelling, with r after it
abbrev pub spelled : Spelling → Bytes → Bytes
spelled underscore r = byte_of Null ∷ crlf r
spelled blob_null r = byte_of BlobString ∷ code "-" ∷ code "1" ∷ crlf r
spelled array_null r = byte_of Array ∷ code "-" ∷ code "1" ∷ crlf r

-- A value as it is written, with r after it.
abbrev mutual
  pub enc : Value → Bytes → Bytes
  enc (blob_string xs) r = byte_of BlobString ∷ framed xs r
  enc (simple_string xs) r = byte_of SimpleString ∷ (xs ++ crlf r)
  enc (simple_error xs) r = byte_of SimpleError ∷ (xs ++ crlf r)
  enc (number z) r = byte_of Number ∷ (integer z ++ crlf r)
  enc (null_as q) r = spelled q r
  enc (double xs) r = byte_of Double ∷ (xs ++ crlf r)
  enc (boolean b) r = byte_of Boolean ∷ cond b (code "t") (code "f") ∷ crlf r
  enc (blob_error xs) r = byte_of BlobError ∷ framed xs r
  enc (verbatim_string f xs) r = byte_of VerbatimString ∷ framed (f ++ (code ":" ∷ xs)) r
  enc (big_number xs) r = byte_of BigNumber ∷ (xs ++ crlf r)
  enc (array vs) r = byte_of Array ∷ counted (count vs) (encs vs r)
  enc (map ps) r = byte_of Map ∷ counted (count_pairs ps) (enc_pairs ps r)
  enc (set vs) r = byte_of Set ∷ counted (count vs) (encs vs r)
  enc (attribute ps v) r = byte_of Attribute ∷ counted (count_pairs ps) (enc_pairs ps (enc v r))
  enc (push vs) r = byte_of Push ∷ counted (count vs) (encs vs r)

  -- values one after the other
  pub encs : Values → Bytes → Bytes
  encs none r = r
  encs (more v vs) r = enc v (encs vs r)

  -- each key, then its value
  pub enc_pairs : Pairs → Bytes → Bytes
  enc_pairs nil r = r
  enc_pairs (pair k v ps) r = enc k (enc v (enc_pairs ps r))

-- a value's bytes
unfoldable pub encode : Value → Bytes
encode v = enc v []

-- `_` as it is written, which also stands for a place that nothing fills
abbrev pub null_bytes : Bytes
null_bytes = encode null

-- s is exactly the value v: valid, at most 16 levels deep, and nothing after it
pub record Means (s : Bytes) (v : Value) : Type 0 where
  pub ok : Valid v
  pub deep : depth v ≤ max_depth
  pub is : s ≡ encode v

-- what replies, pushes and values to store have to be (rule V7): one value, whole and alone, within 16 MiB and 16 levels
pub record IsValue (s : Bytes) : Type 0 where
  pub small : length s ≤ max_bytes
  pub v : Value
  pub means : Means s v
