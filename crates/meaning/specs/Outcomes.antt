-- What a planning comes to on a record, and a resolving on a plan and the replies' value, each in one definition: the causes that are left, and what is
-- written, returned and held; and which of the book's calls are refused. Who believes this page need not read the definitions that the code is proved against
-- (`recorded-is`, `resolved-is`, `refuses` .. of `Readings`, Meaning.antt). Assumes nothing: these are definitions.
-- Letters: g settings, h what the caller holds, p the book's setup, t clock, e epoch.
use Rattle.std.specs.Prelude.{◌≡◌, Bool, true, cond, ◌||◌, List, ℕ, leb, ltb, length, replicate}
use Rattle.buffer.specs.Same.{Bytes}
use Rattle.buffer.specs.Part.{put}
use Rattle.config.specs.Causes.{late_expiry, short_buffer, bad_shape, short_answer}
use Rattle.config.specs.declared.Settings.{Settings}
use Rattle.call_record.specs.Record.{Record}
use Rattle.book.specs.Book.{Setup, Row, Answer, answers}
use Rattle.book.specs.Calls.{Wanted, Storing, Call, planning, resolving, resolving7, refused, lookups, ons, reply_to, after_call}
use Rattle.arena.specs.Held.{Held, lend, book_of}
use Rattle.planning.specs.Ask.{ask, any_late}
use Rattle.planning.specs.Outcome.{wanted}
use Rattle.planning.specs.Planning.{Planned, planned_from, call_of}
use Rattle.resolving.specs.Resolve.{Resolved, cause7, answered}
use Rattle.resolving.specs.Result.{result_bytes}
use Rattle.sharded_lru.specs.Lent.{setup_now}
use Rattle.call_entry.specs.Entered.{no_cause}
use Rattle.cache_manager.specs.Pipeline.{Left, refused_as, wrote}
use Rattle.caching_cmd.specs.Call.{ResolveReturn, refused_of, told_to}

-- what the caller holds after the book's call
abbrev pub leaving : Setup → (ℕ → Row) → Held → Call → Held
leaving p rows h c = lend p (length h.arena) (after_call p c (book_of rows h))

-- planning: 4, 5, and what is written at the front of the two buffers
abbrev pub planning_on : ℕ → ℕ → Bytes → Bytes → Held → Settings → (ℕ → Row) → Record → Left
planning_on t e plan send h g rows r =
    let x : Planned = planned_from (ask g t) g r (answers (setup_now g) (ons (lookups t e (wanted (ask g t) r.commands))) (book_of rows h)) in
    let held : Held = leaving (setup_now g) rows h (call_of g t e r (length plan) (length send)) in
    cond (any_late g t r.commands) (record { returned = refused_as late_expiry; plan = plan; send = send; held = h })
    (cond (ltb (length plan) (length x.plan) || ltb (length send) (length x.send))
    (record { returned = refused_as short_buffer; plan = plan; send = send; held = h })
    (record { returned = wrote (length x.plan) (length x.send) x.counts; plan = put plan 0 x.plan; send = put send 0 x.send; held = held }))

-- resolving: 7, which zeroes the answer buffer and leaves the stores before it; 8, and what is written at the front of the buffer
abbrev pub resolving_on : Setup → (ℕ → Row) → Bool → ℕ → Resolved → Bytes → Held → ResolveReturn
resolving_on p rows transaction e (cause7 ss) buffer h =
    let held : Held = leaving p rows h (told_to transaction e (cause7 ss) (length buffer)) in
    record { cause = bad_shape; written = 0; stores = 0; buffer = replicate (length buffer) 0; held = held }
resolving_on p rows transaction e (answered vs ss) buffer h =
    let held : Held = leaving p rows h (told_to transaction e (answered vs ss) (length buffer)) in
    let lacking : ℕ = refused_of (reply_to p (resolving e ss) (book_of rows h)) in
    let bytes : Bytes = result_bytes transaction vs in
    cond (leb (length bytes) (length buffer)) (record { cause = no_cause; written = length bytes; stores = lacking; buffer = put buffer 0 bytes; held = held })
    (record { cause = short_answer; written = 0; stores = 0; buffer = buffer; held = held })

-- the calls of the book that a cause refuses, by what their events would answer: a planning whose buffers are short, a resolving under 7, any other refused one
pub data Refuses (said : List Answer) : Call → Type 0 where
  is_short : (t e : ℕ) (ws : List Wanted) (short : List Answer → Bool) → short said ≡ true → Refuses said (planning t e ws short)
  is_stopped : (e : ℕ) (ss : List Storing) → Refuses said (resolving7 e ss)
  is_refused_one : Refuses said refused
