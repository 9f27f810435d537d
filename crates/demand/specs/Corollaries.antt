-- Corollaries of demand 3 (Demand.antt), which a reader need not believe, since they are proved from it (Follows.antt): the same said in other words, and
-- what it comes to for refused calls, plans and the counts. Their words are in CorollaryWords.antt, the whole return in Replies.antt. Assumes nothing: these
-- are definitions.
use Rattle.std.specs.Prelude.{◌≡◌, ◌↔◌, ◌≢◌, ℕ, ◌+◌, ◌<◌, true, List, [], ◌∷◌, ◌++◌, length}
use Rattle.std.proofs.Math.Option.{Option, some}
use Rattle.buffer.specs.Same.{Bytes}
use Rattle.config.specs.Wrap.{wrap}
use Rattle.config.specs.Limits.{max_mode}
use Rattle.config.specs.Causes.{bad_config, bad_shape}
use Rattle.config.specs.Config.{mode_of, settings_of}
use Rattle.format.specs.Lists.{All}
use Rattle.resp3.specs.Decode as resp
use Rattle.call_record.specs.Record as records
use Rattle.cursor.specs.At.{record_at}
use Rattle.book.specs.Book.{Setup, Book, Counts, Event, fresh, after_all}
use Rattle.book.specs.Calls as calls
use Rattle.book.specs.Calls.{Storing, Call, ons, run, onto, shards_of, NoneCommon}
use Rattle.book.specs.Residence.{ends, Residence, expiry_of, ServedBy}
use Rattle.book.proofs.Ways.{Way}
use Rattle.book.specs.Counted.{Counted}
use Rattle.book.specs.Trace.{SoundBook}
use Rattle.arena.specs.Layout.{encode}
use Rattle.arena.specs.Held.{Held}
use Rattle.planning.specs.Plan.{Plan}
use Rattle.plan.specs.Decode.{decode_plan}
use Rattle.resolving_walk.specs.Commands.{plan_read}
use Rattle.plan_outcomes.specs.Outcomes.{commands_missing}
use Rattle.resolving.specs.Convert.{replies_of}
use Rattle.call_entry.specs.Entered.{no_cause}
use Rattle.demand.specs.Call.{RealCall, planning, resolving, new_epoch, Given, Return, epoch_taken, setup_by}
use Rattle.demand.specs.Words.{Got, got, gots_of, Movable}
use Rattle.demand.specs.Replies.{Response, respond, return_for}
use Rattle.demand.specs.CorollaryWords.{plan_bytes, served, unserved, total, reported_by, buffers_of, buffers_in, mode_in, epochs_in, sought, unfound}
use Rattle.demand.specs.CorollaryWords.{lacking_in, dropped_in, StopsAt}
use Rattle.demand.specs.Demand as three
use Rattle.demand.specs.Demand.{DemandThree}

module _ (size mode ttl : ℕ) (s : Bytes) (lent : Counts) where
  -- the words of Demand.antt over this setup
  abbrev setup : Setup
  setup = three.setup size mode ttl s lent

  abbrev told : RealCall → Call
  told c = three.told size mode ttl s lent c

  abbrev held_by : List RealCall → Held
  held_by cs = three.held_by size mode ttl s lent cs

  abbrev answers_to : List RealCall → List Return
  answers_to cs = three.answers_to size mode ttl s lent cs

  abbrev book_by : List RealCall → Book
  book_by cs = three.book_by size mode ttl s lent cs

  abbrev trace_by : List RealCall → List Event
  trace_by cs = three.trace_by size mode ttl s lent cs

  abbrev CallIn : List RealCall → Type 0
  CallIn cs = three.CallIn size mode ttl s lent cs

  abbrev LookupIn : List RealCall → Type 0
  LookupIn cs = three.LookupIn size mode ttl s lent cs

  module _ {cs : List RealCall} where
    abbrev returned : CallIn cs → Return
    returned a = three.returned size mode ttl s lent a

    abbrev number : CallIn cs → ℕ
    number a = three.number size mode ttl s lent a

    abbrev held_then : CallIn cs → Held
    held_then a = three.held_then size mode ttl s lent a

    abbrev book_before : CallIn cs → Book
    book_before a = three.book_before size mode ttl s lent a

    abbrev gets : LookupIn cs → Option Got
    gets l = three.gets size mode ttl s lent l

    -- a residence as the book's own pages have it, a part of the trace, serves v to a lookup
    abbrev IsServed : LookupIn cs → Bytes → Type 0
    IsServed l v = ServedBy setup (fresh lent) (onto (trace_by l.call.before) l.earlier) l.key l.command l.clock l.epoch v

    -- what the caller holds before a call, the book then, and what the book says to it
    abbrev pub held_before : CallIn cs → Held
    held_before a = held_by a.before

    abbrev pub book_then : CallIn cs → Book
    book_then a = book_by (a.before ++ (a.call ∷ []))

    abbrev pub response : CallIn cs → Response
    response a = respond setup size (length s) a.call (book_before a)

    -- a planning wrote a plan, of its record's commands, which gives to resolving the lookups that its places show as missed, with their client expiries
    pub record Written (a : CallIn cs) (m d t : ℕ) (bytes : Bytes) : Type 0 where
      pub plan : Plan
      pub decoded : decode_plan (plan_bytes (returned a)) ≡ some plan
      pub transaction : plan.transaction ≡ records.transaction (record_at bytes)
      pub commands : plan.commands ≡ length (record_at bytes).commands
      pub missing : commands_missing (plan_read plan).commands
          ≡ unfound (sought (settings_of size m d (length s)) t (record_at bytes).commands) (gots_of (returned a))

    -- a resolving stopped at a command, and the book has the stores of those before it
    pub record Stopped (a : CallIn cs) (m t e : ℕ) (lent_plan replies : Bytes) : Type 0 where
      pub plan : Plan
      pub decoded : decode_plan lent_plan ≡ some plan
      pub kept : List Storing
      pub stops : StopsAt (mode_of m) t (plan_read plan).commands (replies_of plan.transaction (resp.decode replies)) kept
      pub left : book_then a ≡ after_all setup (ons (calls.stores e kept)) (book_before a)

  pub record Corollaries (cs : List RealCall) : Type 0 where
    -- ---- lookups
    -- a lookup is served by a residence as the book's own pages have it, a part of the trace; where one runs, these events and no others end it
    pub is_served : (l : LookupIn cs) (v : Bytes) → (gets l ≡ some (got v)) ↔ IsServed l v
    pub residence_ends : (k : Bytes) (h : List Event) (r : Residence setup (fresh lent) k h) (ev : Event)
        → (ends setup k ev (run setup (fresh lent) h) ≡ true) ↔ Way setup k (run setup (fresh lent) h) r.epoch (expiry_of r) ev
    -- ---- answers
    -- a new epoch answers 1 and as many more as there were before it, wrapping
    pub new_epochs : (a : CallIn cs) → a.call ≡ new_epoch → returned a ≡ epoch_taken (wrap (1 + epochs_in a.before))
    -- a resolving reports as many stores as the space rule refuses, each judged on what those before it left; no other call reports any
    pub reported : (a : CallIn cs) → reported_by (returned a) ≡ lacking_in setup (told a.call) (book_before a)
    -- every return is worked out, whole, from the arguments and the book: number, offset, lengths, response counts, value and its place, buffers
    pub answers : (a : CallIn cs) → returned a ≡ return_for size (length s) a.call (response a)
    -- ---- refusals
    -- in the sequence cause 1 is a mode over 1 and nothing else
    pub only_mode : (a : CallIn cs) → (number a ≡ bad_config) ↔ (max_mode < mode_in a.call)
    -- a refused call, 7 aside, leaves arena, counts, next number and its buffers as they were
    pub leaves_all : (a : CallIn cs) → number a ≢ no_cause → number a ≢ bad_shape → (held_then a ≡ held_before a) × (buffers_of (returned a) ≡ buffers_in a.call)
    -- 7 leaves the stores of the commands before the one that finds no fitting reply, and only those
    pub seven : (a : CallIn cs) (m d t e : ℕ) (plan replies buffer : Bytes) → a.call ≡ resolving m d t e plan replies buffer → number a ≡ bad_shape
        → Stopped a m t e plan replies
    -- ---- plans
    -- what a planning that passes wrote is a plan with its missing keys
    pub plans_are : (a : CallIn cs) (m d t e : ℕ) (bytes plan send : Bytes) → a.call ≡ planning m d t e bytes plan send → number a ≡ no_cause
        → Written a m d t bytes
    -- ---- the end
    -- the arena, the counts and the next number one by one; each row is one that a shard can hold
    pub image : (held_by cs).arena ≡ encode setup (length s) (book_by cs).rows
    pub counts : (held_by cs).counts ≡ (book_by cs).counts
    pub next : (held_by cs).next ≡ (book_by cs).next
    pub sound : SoundBook setup (book_by cs)
    -- the counts are those first lent and what the returns show, and the entries that lookups and invalidations dropped
    pub hits : (held_by cs).counts.hits ≡ wrap (lent.hits + total served (answers_to cs))
    pub misses : (held_by cs).counts.misses ≡ wrap (lent.misses + total unserved (answers_to cs))
    pub invalidates : (held_by cs).counts.invalidates ≡ wrap (lent.invalidates + dropped_in setup (fresh lent) (trace_by cs))
    -- ---- exchange
    -- by the book's own words: the shards of a call are those of its keys, and all of them where a push drops everything
    pub exchanged : (before later : List RealCall) (x y : RealCall) → cs ≡ before ++ (x ∷ y ∷ later) → Movable x → Movable y
        → NoneCommon (shards_of setup (told x)) (shards_of setup (told y)) → three.Exchanged size mode ttl s lent before x y later

-- the theorem's type
abbrev pub Follow : Type 0
Follow =
    DemandThree → (size mode ttl : ℕ) (s : Bytes) (lent : Counts) → (setup_by size mode ttl s).cause ≡ no_cause → Counted lent
    → (cs : List RealCall) → All Given cs → Corollaries size mode ttl s lent cs
