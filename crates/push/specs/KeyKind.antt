-- Which values of a push are keys, by their kind. Assumes nothing.
use Rattle.std.specs.Prelude.{◌≡◌, refl, Bool, true, false}
use Rattle.resp3.specs.declared.Kind.{Kind}
use Rattle.resp3.specs.declared.Kind.TheVariants.{BlobString, SimpleString, SimpleError, Number, Null, Double, Boolean, BlobError, VerbatimString}
use Rattle.resp3.specs.declared.Kind.TheVariants.{BigNumber, Array, Map, Set, Attribute, Push, Unknown}
use Rattle.resp3.specs.Value.{Value, blob_string, simple_string, simple_error, number, null_as, double, boolean, blob_error, verbatim_string}
use Rattle.resp3.specs.Value.{big_number, array, map, set, attribute, push}
use Rattle.resp3_element.specs.Meaning.{value_kind, of_kind}

-- blob strings alone are
abbrev pub is_key_kind : Kind → Bool
is_key_kind BlobString = true
is_key_kind SimpleString = false
is_key_kind SimpleError = false
is_key_kind Number = false
is_key_kind Null = false
is_key_kind Double = false
is_key_kind Boolean = false
is_key_kind BlobError = false
is_key_kind VerbatimString = false
is_key_kind BigNumber = false
is_key_kind Array = false
is_key_kind Map = false
is_key_kind Set = false
is_key_kind Attribute = false
is_key_kind Push = false
is_key_kind Unknown = false

-- as the definition of a push's keys tells them
pub key-kind : (v : Value) → is_key_kind (value_kind v) ≡ of_kind BlobString v
key-kind (blob_string xs) = refl
key-kind (simple_string xs) = refl
key-kind (simple_error xs) = refl
key-kind (number z) = refl
key-kind (null_as q) = refl
key-kind (double xs) = refl
key-kind (boolean b) = refl
key-kind (blob_error xs) = refl
key-kind (verbatim_string f xs) = refl
key-kind (big_number xs) = refl
key-kind (array vs) = refl
key-kind (map ps) = refl
key-kind (set vs) = refl
key-kind (attribute ps v) = refl
key-kind (push vs) = refl
