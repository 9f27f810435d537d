-- A planning that passes: what then holds of its record, of the book's reply and of what it returns; and that the plan that it returns reads back as its
-- outcomes. Assumes for the last that the rows are well-formed, as those of every book that calls leave are.
use Rattle.std.proofs.Math.Path.{◌≡◌, refl, ap}
use Rattle.std.proofs.Common.{sym, ◌∙◌, subst, zero-le, arith, ltb-false}
use Rattle.std.specs.Prelude.{Result, Ok, Err, ℕ, ◌≤◌, false, cond, List, ltb, length}
use Rattle.std.proofs.Math.Option.{none, some, none-ne-some, some-injective}
use Rattle.buffer.specs.Cases.{by_test}
use Rattle.buffer.specs.Same.{Bytes}
use Rattle.buffer.specs.Part.{put}
use Rattle.buffer.specs.PartLaws.{part-put, part-front}
use Rattle.config.specs.Limits.{max_bytes}
use Rattle.config.specs.declared.Settings.{Settings}
use Rattle.std.specs.Prelude.{Ok}
use Rattle.resp3.specs.Ends.{is_value}
use Rattle.call_record.specs.Record as records
use Rattle.call_record.specs.Record.{ValidRecord, enc_record}
use Rattle.call_record.specs.Offset.{IsRecord}
use Rattle.call_record.specs.Check.{check_def, check-fine}
use Rattle.format.specs.declared.Wrong.{Wrong}
use Rattle.cursor.specs.At.{record_at}
use Rattle.cursor.specs.Laws.{decoded-is}
use Rattle.book.specs.Book.{Setup, Book, Answer}
use Rattle.book.specs.Calls as calls
use Rattle.book.specs.Calls.{Call, Wanted, reply_to}
use Rattle.book.specs.Lookups.{dry}
use Rattle.book.proofs.Lookups.{planning-reply}
use Rattle.arena.specs.Tests.{WellFormed}
use Rattle.planning.specs.Ask.{ask, any_late}
use Rattle.planning.specs.Outcome.{CachingResult, wanted, outcomes}
use Rattle.planning.specs.Plan.{nodes, plan_of}
use Rattle.planning.specs.Planning.{Planned, planned_from, short, call_of}
use Rattle.plan.specs.Decode.{decode_plan}
use Rattle.plan_outcomes.specs.Law.{Read}
use Rattle.plan_outcomes.proofs.Law.{planned-read}
use Rattle.plan_outcomes.proofs.Served.{dry-good}
use Rattle.call_entry.specs.Entered.{no_cause}
use Rattle.cache_manager.specs.Pipeline as plannings
use Rattle.cache_manager.specs.Pipeline.{wrote}
use Rattle.cache_manager.specs.Call as told
use Rattle.cache_manager.specs.Call.{judged_call}
use Rattle.caching.specs.Planned.{plan_return}
use Rattle.demand.specs.Call.{Return, planned, cause_of}
use Rattle.demand.specs.Words.{places_in, places_of, gots_of}
use Rattle.demand.specs.Replies.{Reply, plan_reply, record_reply, planning_return}
use Rattle.demand.specs.CorollaryWords.{plan_bytes}

module _ (g : Settings) (t e : ℕ) (bytes d f : Bytes) (p : Setup) (bk : Book) where
  -- what is written for these answers, and what is returned then
  abbrev out : List Answer → Planned
  out said = planned_from (ask g t) g (record_at bytes) said

  abbrev pub written : List Answer → Return
  written said =
      planned (plan_return (wrote (length (out said).plan) (length (out said).send) (out said).counts)) (put d 0 (out said).plan) (put f 0 (out said).send)

  -- what is looked up, and what the book answers
  abbrev pub ws : List Wanted
  ws = wanted (ask g t) (record_at bytes).commands

  abbrev pub said : List Answer
  said = dry p bk t e ws

  -- the book's call
  abbrev call : Call
  call = told.book_call g t e bytes (length d) (length f)

  -- a return of a planning that passes
  pub record Passing (r : Return) : Type 0 where
    pub few : ltb max_bytes (length bytes) ≡ false
    pub fine : check_def bytes ≡ Ok tt
    pub intime : any_late g t (record_at bytes).commands ≡ false
    pub told : call ≡ calls.planning t e ws (short (ask g t) g (record_at bytes) (length d) (length f))
    pub reply : reply_to p call bk ≡ some said
    pub return : r ≡ written said

  module _ (few : ltb max_bytes (length bytes) ≡ false) (fine : check_def bytes ≡ Ok tt) (intime : any_late g t (record_at bytes).commands ≡ false) where
    -- the book is told of its lookups, and replies with their answers unless a buffer is short
    call-is : call ≡ calls.planning t e ws (short (ask g t) g (record_at bytes) (length d) (length f))
    unfolding told.book_call judged_call call_of
    call-is = rw (few, fine, intime)

    reply-is : reply_to p call bk ≡ cond (short (ask g t) g (record_at bytes) (length d) (length f) said) none (some said)
    reply-is = ap (λ (c : Call). reply_to p c bk) call-is ∙ planning-reply p t e ws (short (ask g t) g (record_at bytes) (length d) (length f)) bk

    said-is : (x : List Answer) → reply_to p call bk ≡ some x → said ≡ x
    said-is x q =
        let z : cond (short (ask g t) g (record_at bytes) (length d) (length f) said) none (some said) ≡ some x = sym reply-is ∙ q in
        by_test (short (ask g t) g (record_at bytes) (length d) (length f) said) (λ u. absurd (none-ne-some x (rw u at z)))
        (λ u. some-injective said x (rw u at z))

    -- cause 5, then causes 4 and 2: where none of them refuses it, it passes
    by-reply : (o : Reply) → reply_to p call bk ≡ o → cause_of (plan_reply t bytes d f g o) ≡ no_cause → Passing (plan_reply t bytes d f g o)
    unfolding plan_reply cause_of
    by-reply none q k = absurd (let z : ◌≡◌ {A = ℕ} 5 0 = k in omega arith)
    by-reply (some x) q k =
        let h : said ≡ x = said-is x q in
        record { few = few; fine = fine; intime = intime; told = call-is; reply = q ∙ ap some (sym h); return = ap written (sym h) }

  by-record : (x : Result (Unit {0}) Wrong) (o : Reply) → ltb max_bytes (length bytes) ≡ false → check_def bytes ≡ x → reply_to p call bk ≡ o
      → cause_of (record_reply t bytes d f g x o) ≡ no_cause → Passing (record_reply t bytes d f g x o)
  unfolding record_reply cause_of
  by-record (Ok u) o l c q k =
      by_test (any_late g t (record_at bytes).commands) (λ late. absurd (let z : ◌≡◌ {A = ℕ} 4 0 = rw late at k in omega arith))
      (λ late. rw late (by-reply l c late o q (rw late at k)))
  by-record (Err w) o l c q k = absurd (let z : ◌≡◌ {A = ℕ} 2 0 = k in omega arith)

  -- one whose number is 0 passes
  pub passing : cause_of (planning_return t bytes d f (Ok g) (reply_to p call bk)) ≡ no_cause → Passing (planning_return t bytes d f (Ok g) (reply_to p call bk))
  unfolding planning_return cause_of
  passing k =
      by_test (ltb max_bytes (length bytes)) (λ l. absurd (let z : ◌≡◌ {A = ℕ} 3 0 = rw l at k in omega arith))
      (λ l. rw l (by-record (check_def bytes) (reply_to p call bk) l refl refl (rw l at k)))

  module _ (w : WellFormed is_value p bk.rows) {r : Return} (x : Passing r) where
    -- its outcomes
    abbrev pub results : List CachingResult
    results = outcomes (ask g t) (record_at bytes).commands said

    -- its bytes are a record, so the plan reads back
    is-record : IsRecord bytes
    is-record = (check-fine bytes).0 x.fine

    pub read : Read (out said).plan (records.transaction (record_at bytes)) results
    read =
        let q = (decoded-is bytes is-record).is in
        planned-read g t (record_at bytes) said (subst ValidRecord (sym q) is-record.valid)
        (subst (λ (b : Bytes). length b ≤ max_bytes) (is-record.bytes ∙ ap enc_record (sym q)) (ltb-false max_bytes (length bytes) x.few)) x.intime
        (dry-good p bk t e ws w)

    -- the plan that the buffer holds
    pub plan-decoded : decode_plan (plan_bytes r) ≡ some (plan_of (records.transaction (record_at bytes)) results)
    plan-decoded = ap (λ (z : Return). decode_plan (plan_bytes z)) x.return ∙ ap decode_plan taken ∙ read.decoded
      where
        taken : plan_bytes (written said) ≡ (out said).plan
        taken = unfold plan_bytes in (sym (part-front (put d 0 (out said).plan) (length (out said).plan)) ∙ part-put d (out said).plan 0 zero-le)

    -- and its places
    pub gots-places : gots_of r ≡ places_in (nodes results)
    gots-places =
        ap gots_of x.return ∙ shown ∙ ap places_of (ap (λ (z : Return). decode_plan (plan_bytes z)) (sym x.return) ∙ plan-decoded)
        ∙ (unfold places_of plan_of in refl)
      where
        shown : gots_of (written said) ≡ places_of (decode_plan (plan_bytes (written said)))
        shown = unfold gots_of plan_bytes plannings.cause_of in refl
