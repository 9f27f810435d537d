-- A resolving as a call: from the settings, the plan and the replies, clock and epoch, the answer buffer and what the caller holds, to everything that
-- comes out. Rules are docs/BEHAVIOUR.md's. Assumes nothing: these are the definitions that a reader has to believe.
use Rattle.std.specs.Prelude.{◌≡◌, Bool, true, cond, List, ℕ, leb, length, replicate, Result, Ok, Err}
use Rattle.std.proofs.Math.Option.{Option, none, some}
use Rattle.buffer.specs.Same.{Bytes}
use Rattle.buffer.specs.Part.{put}
use Rattle.config.specs.Causes.{bad_reply, bad_plan, number}
use Rattle.config.specs.Config.{checked}
use Rattle.config.specs.declared.Settings.{Settings}
use Rattle.config.specs.declared.Cause.{Cause}
use Rattle.config.specs.declared.Cause.TheVariants.{BadShape, ShortAnswer}
use Rattle.resp3.specs.Ends.{is_value}
use Rattle.resp3.specs.Decode as resp
use Rattle.book.specs.Book.{Setup, Row, Book, Answer}
use Rattle.book.specs.Calls.{Call, refused, after_call, reply_to, refusals}
use Rattle.arena.specs.Held.{Held, lend, book_of}
use Rattle.sharded_lru.specs.Lent.{setup_now}
use Rattle.call_entry.specs.Entered.{no_cause, entered}
use Rattle.planning.specs.Plan as nodes
use Rattle.plan.specs.Decode.{decode_plan}
use Rattle.resolving_walk.specs.Commands.{plan_read}
use Rattle.resolving.specs.Resolve.{Resolved, cause7, answered, resolve}
use Rattle.resolving.specs.Result.{result_bytes, call_of}
use Rattle.caching_cmd.specs.declared.Answered.{Answered}

-- the number of the cause that refuses the call, 0 for none; how many bytes the result has; and how many stores found no space (rule S11)
abbrev pub cause_of : Result Answered Cause → ℕ
cause_of (Ok x) = no_cause
cause_of (Err cause) = number cause

abbrev pub written_of : Result Answered Cause → ℕ
written_of (Ok x) = x.written
written_of (Err cause) = 0

abbrev pub stores_of : Result Answered Cause → ℕ
stores_of (Ok x) = x.refused
stores_of (Err cause) = 0

-- so many bytes written, and so many stores that found no space
abbrev pub answered_with : ℕ → ℕ → Result Answered Cause
answered_with n m = Ok (record { written = n; refused = m })

-- what comes out: these three, the answer buffer, and what the caller holds
pub record ResolveReturn : Type 0 where
  pub cause : ℕ
  pub written : ℕ
  pub stores : ℕ
  pub buffer : Bytes
  pub held : Held

abbrev pub returning : Result Answered Cause → Bytes → Held → ResolveReturn
returning r buffer h = record { cause = cause_of r; written = written_of r; stores = stores_of r; buffer = buffer; held = h }

-- a refusal leaves everything as it was (rule G5)
abbrev pub refused_as : ℕ → Bytes → Held → ResolveReturn
refused_as n buffer h = record { cause = n; written = 0; stores = 0; buffer = buffer; held = h }

-- ---- causes 7 and 8

-- cause 8 (C8): the answer buffer is too small for the result; where cause 7 refuses there is no result
unfoldable pub fits : Bool → Resolved → ℕ → Bool
fits transaction (cause7 ss) room = true
fits transaction (answered vs ss) room = leb (length (result_bytes transaction vs)) room

-- what the book is told: the stores; where 8 refuses the call, nothing
unfoldable pub told_to : Bool → ℕ → Resolved → ℕ → Call
told_to transaction epoch v room = cond (fits transaction v room) (call_of epoch v) refused

-- how many stores found no space (rule S11)
unfoldable pub refused_of : Option (List Answer) → ℕ
refused_of none = 0
refused_of (some said) = refusals said

-- cause 7 is judged before cause 8 (rule C12)
unfoldable pub answer_of : Setup → Bool → ℕ → Resolved → ℕ → Book → Result Answered Cause
answer_of p transaction epoch (cause7 ss) room bk = Err BadShape
answer_of p transaction epoch (answered vs ss) room bk =
    cond (leb (length (result_bytes transaction vs)) room)
    (answered_with (length (result_bytes transaction vs)) (refused_of (reply_to p (call_of epoch (answered vs ss)) bk)))
    (Err ShortAnswer)

-- the answer buffer afterwards: all zeros under cause 7 (rule S12), untouched under 8, else the result with the buffer's own end behind it (rule G6)
unfoldable pub buffer_after : Bool → Resolved → Bytes → Bytes
buffer_after transaction (cause7 ss) buffer = replicate (length buffer) 0
buffer_after transaction (answered vs ss) buffer =
    cond (leb (length (result_bytes transaction vs)) (length buffer)) (put buffer 0 (result_bytes transaction vs)) buffer

-- a resolving on the rows that the arena encodes; where 7 refuses it, the stores made before it stay (rule S12)
unfoldable pub resolved_on : Setup → (ℕ → Row) → Bool → ℕ → Resolved → Bytes → Held → ResolveReturn
resolved_on p rows transaction epoch v buffer h =
    returning (answer_of p transaction epoch v (length buffer) (book_of rows h)) (buffer_after transaction v buffer)
    (lend p (length h.arena) (after_call p (told_to transaction epoch v (length buffer)) (book_of rows h)))

-- ---- the causes in the order of rule C12: 1, 9, 10 and 6, before 7 and 8

unfoldable pub planned : Settings → (ℕ → Row) → Option nodes.Plan → Bytes → ℕ → ℕ → Bytes → Held → ResolveReturn
planned g rows none replies clock epoch buffer h = refused_as bad_plan buffer h
planned g rows (some p) replies clock epoch buffer h =
    cond (is_value replies)
    (resolved_on (setup_now g) rows p.transaction epoch (resolve (plan_read p) g.mode clock (resp.decode replies)) buffer h)
    (refused_as bad_reply buffer h)

-- the whole call: size, mode's number, default TTL; plan, replies, clock, epoch; the answer buffer; what the caller holds
unfoldable pub resolve_call : ℕ → ℕ → ℕ → Bytes → Bytes → ℕ → ℕ → Bytes → Held → ResolveReturn
resolve_call size mode ttl plan replies clock epoch buffer h =
    entered (λ n. refused_as n buffer h) (λ g rows. planned g rows (decode_plan plan) replies clock epoch buffer h) (checked size mode ttl (length h.arena))
    h.arena

-- an answer, an arena and a buffer are what comes out; a resolving takes no counts and no next number
abbrev pub Comes : ResolveReturn → Result Answered Cause → Bytes → Bytes → Type 0
Comes t r arena buffer = (cause_of r ≡ t.cause) × (written_of r ≡ t.written) × (stores_of r ≡ t.stores) × (arena ≡ t.held.arena) × (buffer ≡ t.buffer)
