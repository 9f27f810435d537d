-- The whole call for a push, from the settings, the bytes and what the caller holds to the cause's number and what the caller holds then. Which keys a push
-- names (rules U1 to U4 of docs/BEHAVIOUR.md) is resolving's `pushed` (Pushes.antt there). Assumes nothing: these are definitions.
use Rattle.std.specs.Prelude.{ℕ, cond, length}
use Rattle.std.proofs.Math.Option.{none}
use Rattle.buffer.specs.Same.{Bytes}
use Rattle.config.specs.Causes.{bad_reply}
use Rattle.config.specs.Config.{checked}
use Rattle.resp3.specs.Ends.{is_value}
use Rattle.resp3.specs.Decode.{decode}
use Rattle.resp3.specs.Value.{Value}
use Rattle.book.specs.Book.{Setup, Row}
use Rattle.book.specs.Calls.{Call, refused, after_call}
use Rattle.arena.specs.Held.{Held, lend, book_of}
use Rattle.resolving.specs.Pushes.{pushed}
use Rattle.sharded_lru.specs.Lent.{setup_now}
use Rattle.call_entry.specs.Entered.{no_cause, entered}
use Rattle.single_calls.specs.Single.{Return, refused_as}

-- the book's call: the push where the bytes are one value (rules V7, C6), a refused call where they are not
unfoldable pub call_for : Bytes → Call
call_for bytes = cond (is_value bytes) (pushed (decode bytes)) refused

-- a push that no cause refuses, on the rows that the arena encodes: its invalidations (rule B14)
unfoldable pub pushed_on : Setup → (ℕ → Row) → Value → Held → Return
pushed_on p rows v h = record { cause = no_cause; value = none; held = lend p (length h.arena) (after_call p (pushed v) (book_of rows h)) }

-- on an image: cause 6, or the push (rule C12)
unfoldable pub imaged : Setup → (ℕ → Row) → Bytes → Held → Return
imaged p rows bytes h = cond (is_value bytes) (pushed_on p rows (decode bytes) h) (refused_as bad_reply h)

-- the whole push: size, mode's number, default TTL, the bytes, what the caller holds
unfoldable pub push_call : ℕ → ℕ → ℕ → Bytes → Held → Return
push_call size mode ttl bytes h =
    entered (λ n. refused_as n h) (λ g rows. imaged (setup_now g) rows bytes h) (checked size mode ttl (length h.arena)) h.arena
