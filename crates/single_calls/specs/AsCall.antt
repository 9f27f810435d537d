-- A single call as the book's call on bytes (arena/proofs/Sequence.antt). Assumes nothing: these are definitions.
use Rattle.std.specs.Prelude.{ℕ, ◌^◌, ◌<◌, cond, [], ◌∷◌}
use Rattle.std.proofs.Math.Option.{Option, none}
use Rattle.buffer.specs.Same.{Bytes}
use Rattle.config.specs.Causes.{too_long, bad_reply, bad_arena}
use Rattle.book.specs.Book.{Keyed, lookup, store, invalidate}
use Rattle.book.specs.Calls.{Call, single, refused}
use Rattle.arena.proofs.Sequence.{Outcome, no_image, denied, said, Result}
use Rattle.call_entry.specs.Entered.{no_cause}
use Rattle.single_calls.specs.Single.{Return, overlong, wrong_bytes, number_of, served_by}

-- the book's call that the arguments make: one that is refused where 3 or 6 refuses them, since of these the arguments alone decide
unfoldable pub call_of : Keyed → Call
call_of q = cond (overlong q) refused (cond (wrong_bytes q) refused (single q))

-- the cause's number in what the call on bytes comes to
unfoldable pub outcome_number : Keyed → Outcome → ℕ
outcome_number q no_image = bad_arena
outcome_number q denied = cond (overlong q) too_long bad_reply
outcome_number q (said []) = no_cause
outcome_number q (said (a ∷ rest)) = number_of a

-- and the value that it serves
unfoldable pub outcome_value : Outcome → Option Bytes
outcome_value no_image = none
outcome_value denied = none
outcome_value (said []) = none
outcome_value (said (a ∷ rest)) = served_by a

abbrev pub returned : Keyed → Result → Return
returned q r = record { cause = outcome_number q r.outcome; value = outcome_value r.outcome; held = r.held }

-- expiry and epoch are numbers of 64 bits
abbrev pub Numbers : Keyed → Type 0
Numbers (lookup k c t e) = Unit {0}
Numbers (store k c v x e) = (x < 2 ^ 64) × (e < 2 ^ 64)
Numbers (invalidate k) = Unit {0}
