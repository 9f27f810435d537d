-- The whole of planning on a call record that is one: its lookups, what it writes and answers, and the call that the book is fed. Assumes nothing: these
-- are definitions.
-- Letters: g settings, t clock, e epoch, r call record.
use Rattle.std.specs.Prelude.{ℕ, Bool, cond, ◌||◌, List, ltb, length}
use Rattle.buffer.specs.Same.{Bytes}
use Rattle.config.specs.Causes.{late_expiry, short_buffer}
use Rattle.config.specs.declared.Settings.{Settings}
use Rattle.call_record.specs.Record.{Command, Record, transaction}
use Rattle.book.specs.Book.{Setup, Book, Answer, answers}
use Rattle.book.specs.Calls.{Call, planning, refused, lookups, ons}
use Rattle.planning.specs.Ask.{Ask, ask, any_late}
use Rattle.planning.specs.Outcome.{CachingResult, wanted, outcomes}
use Rattle.planning.specs.Sent.{sent, wrapped, sent_bytes, Responses, responses}
use Rattle.planning.specs.Plan.{plan_of, enc_plan}

-- what planning writes to the plan and the send buffer, and the response counts that it answers
pub record Planned : Type 0 where
  pub plan : Bytes
  pub send : Bytes
  pub counts : Responses

-- by the outcomes of its commands
unfoldable pub planned_by : Settings → Record → List CachingResult → Planned
planned_by g r rs =
    record {
      plan = enc_plan (plan_of (transaction r) rs);
      send = sent_bytes (wrapped (transaction r) (sent g.mode r.commands rs));
      counts = responses (transaction r) (length (sent g.mode r.commands rs));
    }

-- by the answers to its lookups
unfoldable pub planned_from : (Command → Ask) → Settings → Record → List Answer → Planned
planned_from asks g r said = planned_by g r (outcomes asks r.commands said)

-- cause 5 (rules P20, C5): what is to be written into one of the two buffers is longer than the buffer
unfoldable pub short : (Command → Ask) → Settings → Record → ℕ → ℕ → List Answer → Bool
short asks g r plan_room send_room said =
    ltb plan_room (length (planned_from asks g r said).plan) || ltb send_room (length (planned_from asks g r said).send)

-- the call that the book is told of (rule B14): its lookups; cause 4 refuses it whatever they would answer
unfoldable pub call_of : Settings → ℕ → ℕ → Record → ℕ → ℕ → Call
call_of g t e r plan_room send_room =
    cond (any_late g t r.commands) refused (planning t e (wanted (ask g t) r.commands) (short (ask g t) g r plan_room send_room))

-- a cause's number, or what is written
pub data PlanAnswer : Type 0 where
  because : ℕ → PlanAnswer
  done : Planned → PlanAnswer

-- what planning answers, by what its lookups answer: cause 4 comes before cause 5 (rule C12)
unfoldable pub plan_answer : Settings → ℕ → Record → ℕ → ℕ → List Answer → PlanAnswer
plan_answer g t r plan_room send_room said =
    cond (any_late g t r.commands) (because late_expiry)
    (cond (short (ask g t) g r plan_room send_room said) (because short_buffer) (done (planned_from (ask g t) g r said)))

-- on a book
unfoldable pub plan_on : Setup → Book → Settings → ℕ → ℕ → Record → ℕ → ℕ → PlanAnswer
plan_on p bk g t e r plan_room send_room =
    plan_answer g t r plan_room send_room (answers p (ons (lookups t e (wanted (ask g t) r.commands))) bk)

-- one name that opens every definition of this page, for cases that compute
unfoldable pub planning-defs : Unit {0}
unfolding planned_by planned_from short call_of plan_answer plan_on
planning-defs = tt
