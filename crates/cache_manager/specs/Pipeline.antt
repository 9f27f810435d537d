-- Planning as a call (`get_cached_pipeline`): its causes, what planning returns and what it leaves, from the settings, the arguments and what the
-- caller holds. Rules are docs/BEHAVIOUR.md's. Assumes nothing: these are definitions.
-- Letters: g settings, t clock, e epoch, s the call record's bytes, r the call record, d the plan buffer's bytes, f the send buffer's, h what the caller holds.
use Rattle.std.specs.Prelude.{◌≡◌, cond, ℕ, ltb, length, Result, Ok, Err}
use Rattle.buffer.specs.Same.{Bytes}
use Rattle.buffer.specs.Part.{put}
use Rattle.config.specs.Limits.{max_bytes}
use Rattle.config.specs.Causes.{bad_record, too_long, number}
use Rattle.config.specs.declared.Cause.{Cause}
use Rattle.config.specs.declared.Cause.TheVariants.{BadRecord}
use Rattle.config.specs.Config.{checked}
use Rattle.config.specs.declared.Settings.{Settings}
use Rattle.call_record.specs.Record.{Record}
use Rattle.call_record.specs.Check.{check_def}
use Rattle.format.specs.declared.Wrong.{Wrong}
use Rattle.cursor.specs.At.{record_at}
use Rattle.book.specs.Book.{Row}
use Rattle.book.specs.Calls.{after_call}
use Rattle.arena.specs.Held.{Held, lend, book_of}
use Rattle.planning.specs.Sent.{Responses}
use Rattle.planning.specs.Planning.{PlanAnswer, because, done, plan_on, call_of}
use Rattle.sharded_lru.specs.Lent.{setup_now}
use Rattle.call_entry.specs.Entered.{no_cause, entered}
use Rattle.statistics.specs.OfBook.{counts_of}
use Rattle.cache_manager.specs.declared.Written.{Written}
use Rattle.cache_manager.specs.declared.CachedPipeline.{CachedPipeline}

-- ---- what is returned

pub data Returned : Type 0 where
  -- the cause's number
  refused_as : ℕ → Returned
  -- cause 2, with its offset (rule R5)
  wrong_at : ℕ → Returned
  -- bytes written to the plan buffer, bytes written to the send buffer, response counts
  wrote : ℕ → ℕ → Responses → Returned

-- the cause's number; 0 where nothing refuses
unfoldable pub cause_of : Returned → ℕ
cause_of (refused_as n) = n
cause_of (wrong_at o) = bad_record
cause_of (wrote n m c) = no_cause

-- with what is left: the two buffers, and what the caller holds
pub record Left : Type 0 where
  pub returned : Returned
  pub plan : Bytes
  pub send : Bytes
  pub held : Held

module _ (t e : ℕ) (s d f : Bytes) (h : Held) where
  -- a refusal leaves everything as it was (rule G5)
  abbrev pub refusal : Returned → Left
  refusal x = record { returned = x; plan = d; send = f; held = h }

  -- plan and bytes to send stand at the front of their buffers, whose ends stay (rules P19, G6)
  unfoldable pub pipelined : Settings → (ℕ → Row) → Record → PlanAnswer → Left
  pipelined g rows r (because n) = refusal (refused_as n)
  pipelined g rows r (done x) =
      record {
        returned = wrote (length x.plan) (length x.send) x.counts;
        plan = put d 0 x.plan;
        send = put f 0 x.send;
        held = lend (setup_now g) (length h.arena) (after_call (setup_now g) (call_of g t e r (length d) (length f)) (book_of rows h));
      }

  -- on a record: causes 4 and 5 are planning's own
  abbrev pub recorded : Settings → (ℕ → Row) → Record → Left
  recorded g rows r = pipelined g rows r (plan_on (setup_now g) (book_of rows h) g t e r (length d) (length f))

  -- cause 2 (C2)
  unfoldable pub judged : Settings → (ℕ → Row) → Result (Unit {0}) Wrong → Left
  judged g rows (Ok u) = recorded g rows (record_at s)
  judged g rows (Err w) = refusal (wrong_at w.at)

  -- cause 3 comes before it, for a record that is too long, right or wrong (C3, and the order of rule C12)
  unfoldable pub admitted_to : Settings → (ℕ → Row) → Left
  admitted_to g rows = cond (ltb max_bytes (length s)) (refusal (refused_as too_long)) (judged g rows (check_def s))

-- the whole call, causes 1 and 9 first (rule C12): size, mode's number, default TTL, clock, epoch, call record, plan buffer, send buffer, what the caller holds
unfoldable pub plan_call : ℕ → ℕ → ℕ → ℕ → ℕ → Bytes → Bytes → Bytes → Held → Left
plan_call size mode ttl t e s d f h =
    entered (λ n. refusal t e s d f h (refused_as n)) (admitted_to t e s d f h) (checked size mode ttl (length h.arena)) h.arena

-- ---- what the code's answer stands for

-- a refusal: cause 2 with its offset, any other by its number
abbrev pub refused_by : Cause → Returned
refused_by (BadRecord o) = wrong_at o
refused_by cause = refused_as (number cause)

abbrev pub returned_of : Result Written Cause → Returned
returned_of (Ok w) = wrote w.plan w.send (record { offset = w.offset; count = w.count })
returned_of (Err cause) = refused_by cause

-- the call returned r and left the arena a, the plan buffer d and the send buffer f, as is said
pub record Leaves (x : Left) (a d f : Bytes) (r : CachedPipeline) : Type 0 where
  pub returned : returned_of r.answer ≡ x.returned
  pub arena : a ≡ x.held.arena
  pub counts : counts_of r.counts ≡ x.held.counts
  pub plan : d ≡ x.plan
  pub send : f ≡ x.send
