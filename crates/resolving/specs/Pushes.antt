-- From a push to the book's call: rules U1 to U4 of docs/BEHAVIOUR.md. Assumes nothing: these are the definitions that a reader has to believe.
-- A value under `|` is of the kind attribute, so neither array, blob, null nor push.
use Rattle.std.specs.Prelude.{Bool, false, cond, List, [], ◌∷◌}
use Rattle.std.proofs.Math.Option.{Option, some}
use Rattle.std.proofs.Math.Option as option
use Rattle.buffer.specs.Same.{Bytes, same}
use Rattle.resp3.specs.declared.Kind.TheVariants.{BlobString}
use Rattle.buffer.specs.Ascii.{ascii}
use Rattle.resp3.specs.Value.{Value, Values, none, more}
use Rattle.resp3_element.specs.Meaning.{of_kind, is_null, blob_of, array_of, push_of}
use Rattle.book.specs.Calls.{Call, push, push_all}

-- rule U2: the blobs among the elements are the keys
abbrev pub keys_of : Values → List Bytes
keys_of none = []
keys_of (more k ks) = cond (of_kind BlobString k) (blob_of k ∷ keys_of ks) (keys_of ks)

-- a push that says nothing to the cache (rule U1): it names no keys
abbrev pub ignored : Call
ignored = push []

-- by what stands in second place (rules U2, U3): the array's elements, or none where it is no array, and whether it is a null
abbrev pub invalidating : Option Values → Bool → Call
invalidating (some ks) is_nil = push (keys_of ks)
invalidating option.none is_nil = cond is_nil push_all ignored

-- what comes after the first element: the next one decides
abbrev pub after_first : Values → Call
after_first none = ignored
after_first (more v vs) = invalidating (array_of v) (is_null v)

-- what has to stand in front (rule U1)
abbrev pub is_invalidate : Value → Bool
is_invalidate v = cond (of_kind BlobString v) (same (blob_of v) (ascii "invalidate")) false

-- the elements of a push
abbrev pub from_elements : Values → Call
from_elements none = ignored
from_elements (more v vs) = cond (is_invalidate v) (after_first vs) ignored

-- and the whole has to be a push
abbrev pub from_push : Option Values → Call
from_push option.none = ignored
from_push (some vs) = from_elements vs

-- a push, as a call on the book
unfoldable pub pushed : Value → Call
pushed v = from_push (push_of v)
