-- The result's bytes, and a resolving as a call on the book. Assumes nothing: these are the definitions that a reader has to believe.
use Rattle.std.specs.Prelude.{Bool, true, false, ℕ}
use Rattle.buffer.specs.Same.{Bytes}
use Rattle.resp3.specs.Value.{Value, Values, array, none, more, encode}
use Rattle.book.specs.Calls.{Call, resolving, resolving7}
use Rattle.resolving.specs.Resolve.{Resolved, cause7, answered}

-- the value that resolving answers (rule S10): an array of the answers, around which a transaction has a second one. (ResultLaws.antt writes it out.)
abbrev pub result_of : Bool → Values → Value
result_of false answers = array answers
result_of true answers = array (more (array answers) none)

-- its bytes
unfoldable pub result_bytes : Bool → Values → Bytes
result_bytes transaction answers = encode (result_of transaction answers)

-- what the book is told (rule B14), the epoch given
abbrev pub call_of : ℕ → Resolved → Call
call_of epoch (cause7 ss) = resolving7 epoch ss
call_of epoch (answered vs ss) = resolving epoch ss
