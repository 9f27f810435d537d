-- The book's call that a planning is, by its arguments alone: what demand 3's sequences take it as. That it leaves what the book's call leaves is shown there
-- (demand/proofs/PlanBridge.antt). Assumes nothing: these are definitions.
use Rattle.std.specs.Prelude.{Result, Ok, Err, cond, ℕ, ltb, length}
use Rattle.buffer.specs.Same.{Bytes}
use Rattle.config.specs.Limits.{max_bytes}
use Rattle.config.specs.declared.Settings.{Settings}
use Rattle.call_record.specs.Check.{check_def}
use Rattle.format.specs.declared.Wrong.{Wrong}
use Rattle.cursor.specs.At.{record_at}
use Rattle.book.specs.Calls.{Call, refused}
use Rattle.planning.specs.Planning.{call_of}

-- the book's call: nothing where causes 3 and 2 refuse it, else the record's
unfoldable pub judged_call : Settings → ℕ → ℕ → Bytes → ℕ → ℕ → Result (Unit {0}) Wrong → Call
judged_call g t e s n m (Ok u) = call_of g t e (record_at s) n m
judged_call g t e s n m (Err w) = refused

unfoldable pub book_call : Settings → ℕ → ℕ → Bytes → ℕ → ℕ → Call
book_call g t e s n m = cond (ltb max_bytes (length s)) refused (judged_call g t e s n m (check_def s))
