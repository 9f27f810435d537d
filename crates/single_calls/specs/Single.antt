-- A single call, that is, one lookup, store or invalidation (`get`, `insert` and `invalidate` of the Rust's `ShardedLRU`), from the settings, the arguments and
-- what the caller holds to the cause's number, the value served and what the caller holds then. Rules are docs/BEHAVIOUR.md's. Assumes nothing: these are
-- definitions.
use Rattle.std.specs.Prelude.{ℕ, Bool, false, cond, not, ◌||◌, length, ltb}
use Rattle.std.proofs.Math.Option.{Option, none, some}
use Rattle.buffer.specs.Same.{Bytes}
use Rattle.config.specs.Limits.{max_key, max_command_key, max_bytes}
use Rattle.config.specs.Causes.{too_long, bad_reply, no_space}
use Rattle.config.specs.Config.{checked}
use Rattle.resp3.specs.Ends.{is_value}
use Rattle.book.specs.Book.{Setup, Row, Answer, hit, miss, stored, no_space as spaceless, invalidated, number, Keyed, lookup, store, invalidate, on, answer_to}
use Rattle.book.specs.Calls.{single, after_call}
use Rattle.arena.specs.Held.{Held, lend, book_of}
use Rattle.sharded_lru.specs.Lent.{setup_now}
use Rattle.call_entry.specs.Entered.{no_cause, entered}

-- what a single call returns and leaves
pub record Return : Type 0 where
  -- the number of the cause that refuses it, or 0
  pub cause : ℕ
  -- what a lookup that hits is served (rule B6)
  pub value : Option Bytes
  -- arena, counts and next number
  pub held : Held

-- a refusal leaves everything as it was (rule G5)
abbrev pub refused_as : ℕ → Held → Return
refused_as n h = record { cause = n; value = none; held = h }

-- cause 3 (C3), of so many bytes of key, command key and value; a call that has no command key or no value counts none for it
abbrev pub overlong_by : ℕ → ℕ → ℕ → Bool
overlong_by key command value = ltb max_key key || ltb max_command_key command || ltb max_bytes value

unfoldable pub overlong : Keyed → Bool
overlong (lookup k c t e) = overlong_by (length k) (length c) 0
overlong (store k c v x e) = overlong_by (length k) (length c) (length v)
overlong (invalidate k) = overlong_by (length k) 0 0

-- cause 6 (C6): what is to be stored is not one value by rule V7
unfoldable pub wrong_bytes : Keyed → Bool
wrong_bytes (lookup k c t e) = false
wrong_bytes (store k c v x e) = not (is_value v)
wrong_bytes (invalidate k) = false

-- cause 11: what the book's store answers where the space rule says so
unfoldable pub number_of : Answer → ℕ
number_of (hit v) = no_cause
number_of miss = no_cause
number_of stored = no_cause
number_of spaceless = no_space
number_of invalidated = no_cause
number_of (number n) = no_cause

-- the value that an answer serves
unfoldable pub served_by : Answer → Option Bytes
served_by (hit v) = some v
served_by miss = none
served_by stored = none
served_by spaceless = none
served_by invalidated = none
served_by (number n) = none

-- the book's call on the rows that the arena encodes, its counts with it
unfoldable pub called_on : Setup → (ℕ → Row) → Keyed → Held → Return
called_on p rows q h =
    record {
      cause = number_of (answer_to p (on q) (book_of rows h));
      value = served_by (answer_to p (on q) (book_of rows h));
      held = lend p (length h.arena) (after_call p (single q) (book_of rows h));
    }

-- on an image: the causes in the order of rule C12, 3, 6, and 11 from the book's store
unfoldable pub imaged : Setup → (ℕ → Row) → Keyed → Held → Return
imaged p rows q h =
    cond (overlong q) (refused_as too_long h) (cond (wrong_bytes q) (refused_as bad_reply h) (called_on p rows q h))

-- the whole single call: size, mode's number, default TTL, what is asked, what the caller holds
unfoldable pub single_call : ℕ → ℕ → ℕ → Keyed → Held → Return
single_call size mode ttl q h =
    entered (λ n. refused_as n h) (λ g rows. imaged (setup_now g) rows q h) (checked size mode ttl (length h.arena)) h.arena
