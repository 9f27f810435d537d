-- Causes 1 and 9, with which every call on an arena begins, once for every type of return: `refusal` says what a call returns where a cause refuses
-- it, `goes_on` what it returns on the rows that its arena encodes; with two words that all calls share. Assumes nothing: these are definitions.
use Rattle.std.specs.Prelude.{ℕ, Result, Ok, Err}
use Rattle.std.proofs.Math.Option.{Option, none, some}
use Rattle.buffer.specs.Same.{Bytes}
use Rattle.config.specs.Causes.{bad_config, bad_arena}
use Rattle.config.specs.declared.Settings.{Settings}
use Rattle.config.specs.declared.Cause.{Cause}
use Rattle.resp3.specs.Ends.{is_value}
use Rattle.book.specs.Book.{Row, Counts}
use Rattle.arena.specs.Decode.{decode}
use Rattle.arena.specs.Held.{Held}
use Rattle.sharded_lru.specs.Lent.{setup_now}

-- the number that says that no cause refuses a call
abbrev pub no_cause : ℕ
no_cause = 0

-- what the caller holds: arena, counts and next number
abbrev pub holding : Bytes → Counts → ℕ → Held
holding s c n = record { arena = s; counts = c; next = n }

module _ {R : Type 0} (refusal : ℕ → R) where
  -- 9: the arena encodes no rows
  unfoldable pub on_rows : ((ℕ → Row) → R) → Option (ℕ → Row) → R
  on_rows goes_on none = refusal bad_arena
  on_rows goes_on (some rows) = goes_on rows

  -- 1 before 9: the outcome of cause 1's test, and the arena's bytes
  unfoldable pub entered : (Settings → (ℕ → Row) → R) → Result Settings Cause → Bytes → R
  entered goes_on (Err cause) s = refusal bad_config
  entered goes_on (Ok g) s = on_rows (goes_on g) (decode is_value (setup_now g) s)
