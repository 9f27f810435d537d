-- The clauses `hits` and `misses`: the counts are those first lent and what the returns show, wrapping. Call by call: one that passes adds what its return
-- shows, one that a cause refuses shows nothing and leaves the counts. Assumes what InTurn.antt does.
use Rattle.std.specs.Prelude.{Result, Ok, Err, ◌≡◌, ◌≢◌, eqb, ltb, length}
use Rattle.std.proofs.Math.Path.{refl, ap, subst}
use Rattle.std.proofs.Common.{sym, ◌∙◌, mod-eq_of_lt, eqb-true, ne_eqb}
use Prim.Native.Nat.{ℕ, ◌+◌, ◌^◌, ◌<◌}
use Rattle.std.proofs.Math.Nat.{mod-add-mod}
use native.Mathlib.Omega.{arith}
use Rattle.std.proofs.Math.Option.{none, some}
use mathlib.Core.List.{List, [], ◌∷◌, ◌++◌, append_assoc}
use Rattle.std.proofs.lemmas.Bool.{eqb-false}
use Rattle.buffer.specs.Cases.{by_test}
use Rattle.buffer.specs.Same.{Bytes}
use Rattle.config.specs.Limits.{max_bytes}
use Rattle.config.specs.Wrap.{wrap}
use Rattle.config.specs.Causes.{bad_shape}
use Rattle.config.specs.Config.{checked}
use Rattle.config.specs.declared.Settings.{Settings}
use Rattle.std.specs.Prelude.{Ok, Err, Result}
use Rattle.config.specs.declared.Cause.{Cause}
use Rattle.format.specs.Lists.{All}
use Rattle.resp3.specs.Ends.{is_value}
use Rattle.call_record.specs.Check.{check_def}
use Rattle.format.specs.declared.Wrong.{Wrong}
use Rattle.cursor.specs.At.{record_at}
use Rattle.book.specs.Book as book
use Rattle.book.specs.Book.{Setup, Book, Counts, Answer, Keyed}
use Rattle.book.specs.Calls.{Call, after_call, reply_to, after_calls, replies}
use Rattle.book.specs.Counted.{Counted}
use Rattle.book.specs.Tally.{hits_in, misses_in, tally_reply, tally_all}
use Rattle.book.proofs.Tally.{hits-tallied, misses-tallied}
use Rattle.arena.specs.Tests.{WellFormed}
use Rattle.arena.proofs.Sequence.{outcome_of}
use Rattle.arena.specs.Held.{Held, lend}
use Rattle.planning.specs.Ask.{any_late}
use Rattle.single_calls.specs.Single as one
use Rattle.call_entry.specs.Entered.{no_cause}
use Rattle.single_calls.specs.AsCall.{outcome_number}
use Rattle.cache_manager.specs.Pipeline as pipeline
use Rattle.demand.specs.Call as real
use Rattle.demand.specs.Call.{RealCall, Given, Return, Stepped, cause_of, setup_by, after_setup, step, held_after, returns, setup_with, book_call}
use Rattle.demand.specs.Words.{Got, gots_of}
use Rattle.demand.specs.Demand.{held_by, answers_to, book_by}
use Rattle.demand.specs.Replies.{Reply, respond, return_for, plan_reply, record_reply, planning_return, single_number, push_number}
use Rattle.demand.specs.CorollaryWords.{served, unserved, total}
use Rattle.demand.proofs.Sequences.{given-front}
use Rattle.demand.proofs.OneCall.{booked}
use Rattle.demand.proofs.InTurn.{AllHeld, rows-formed, counts-formed, next-step}
use Rattle.demand.proofs.LeavesAll.{call-left}
use Rattle.demand.proofs.Shows.{shows}
use Rattle.demand.proofs.Shown.{Agree, served-agree, unserved-agree, shown-tally}

-- ---- a call that a cause refuses

-- it shows nothing
refused-silent : (r : Return) → cause_of r ≢ no_cause → gots_of r ≡ []
unfolding cause_of gots_of
refused-silent (real.planned r plan send) n = rw (ne_eqb r.cause no_cause n)
refused-silent (real.resolved r answer) n = refl
refused-silent (real.pushed m) n = refl
refused-silent (real.looked_up r place value) n = rw (ne_eqb r.cause no_cause n)
refused-silent (real.stored m) n = refl
refused-silent (real.invalidated m) n = refl
refused-silent (real.epoch_taken m) n = refl

-- cause 7 is no planning's
module _ (t : ℕ) (bytes plan send : Bytes) where
  plan-not-7 : (g : Settings) (o : Reply) → cause_of (plan_reply t bytes plan send g o) ≢ bad_shape
  unfolding cause_of plan_reply pipeline.cause_of
  plan-not-7 g none = λ e. omega arith
  plan-not-7 g (some said) = λ e. omega arith

  record-not-7 : (g : Settings) (x : Result (Unit {0}) Wrong) (o : Reply) → cause_of (record_reply t bytes plan send g x o) ≢ bad_shape
  unfolding cause_of record_reply
  record-not-7 g (Err w) o = λ e. omega arith
  record-not-7 g (Ok u) o = by_test (any_late g t (record_at bytes).commands) (λ l. rw l (λ e. omega arith)) (λ l. rw l (plan-not-7 g o))

  planning-not-7 : (x : Result Settings Cause) (o : Reply) → cause_of (planning_return t bytes plan send x o) ≢ bad_shape
  unfolding cause_of planning_return
  planning-not-7 (Err cause) o = λ e. omega arith
  planning-not-7 (Ok g) o = by_test (ltb max_bytes (length bytes)) (λ l. rw l (λ e. omega arith)) (λ l. rw l (record-not-7 g (check_def bytes) o))

-- nor is it a push's
push-not-7 : (x : Result Settings Cause) (bytes : Bytes) → push_number x bytes ≢ bad_shape
unfolding push_number
push-not-7 (Err cause) bytes = λ e. omega arith
push-not-7 (Ok g) bytes = by_test (is_value bytes) (λ l. rw l (λ e. omega arith)) (λ l. rw l (λ e. omega arith))

-- nor a single call's
answer-not-7 : (a : Answer) → one.number_of a ≢ bad_shape
unfolding one.number_of
answer-not-7 (book.hit v) = λ e. omega arith
answer-not-7 book.miss = λ e. omega arith
answer-not-7 book.stored = λ e. omega arith
answer-not-7 book.no_space = λ e. omega arith
answer-not-7 book.invalidated = λ e. omega arith
answer-not-7 (book.number n) = λ e. omega arith

single-not-7 : (x : Result Settings Cause) (q : Keyed) (o : Reply) → single_number x q o ≢ bad_shape
unfolding single_number outcome_number outcome_of
single-not-7 (Err cause) q o = λ e. omega arith
single-not-7 (Ok g) q none = by_test (one.overlong q) (λ l. rw l (λ e. omega arith)) (λ l. rw l (λ e. omega arith))
single-not-7 (Ok g) q (some []) = λ e. omega arith
single-not-7 (Ok g) q (some (a ∷ said)) = answer-not-7 a

-- ---- any count that goes by what is shown

-- a count of the three, and what of the returns adds to it
record Goes (f : Counts → ℕ) (count : List Got → ℕ) (g : Answer → ℕ) : Type 0 where
  agree : Agree count g
  below : (c : Counts) → Counted c → f c < 2 ^ 64
  tallied : (p : Setup) (cs : List Call) (bk : Book) → Counted bk.counts
      → f (after_calls p cs bk).counts ≡ wrap (f bk.counts + tally_all g (replies p cs bk))

module _ (f : Counts → ℕ) (count : List Got → ℕ) (g : Answer → ℕ) (go : Goes f count g) where
  -- what is held after a call has the count before it and what its return shows
  abbrev Adds : ℕ → Held → RealCall → Type 0
  Adds size h c = f (step size c h).held.counts ≡ wrap (f h.counts + count (gots_of (step size c h).return))

  -- nothing is shown, nothing is added
  nothing : (was : Counts) (gs : List Got) → Counted was → gs ≡ [] → f was ≡ wrap (f was + count gs)
  nothing was gs w q =
      sym (mod-eq_of_lt (go.below was w)) ∙ ap wrap (let z : count gs ≡ 0 = ap count q ∙ go.agree.none-shown in omega arith)

  module _ (size n : ℕ) (bk : Book) (w : WellFormed is_value (setup_with size n) bk.rows) (counted : Counted bk.counts) where
    abbrev p : Setup
    p = setup_with size n

    abbrev said : RealCall → Return
    said c = return_for size n c (respond p size n c bk)

    -- a call of the book adds what it answers
    call-tallied : (c : Call) → f (after_call p c bk).counts ≡ wrap (f bk.counts + tally_reply g (reply_to p c bk))
    unfolding after_calls replies tally_all
    call-tallied c = go.tallied p (c ∷ []) bk counted ∙ ap wrap (omega arith)

    -- which is what its return shows
    call-adds : (c : RealCall) → cause_of (said c) ≢ bad_shape
        → f (after_call p (book_call size n c) bk).counts ≡ wrap (f bk.counts + count (gots_of (said c)))
    call-adds c seven =
        by_test (eqb (cause_of (said c)) no_cause)
        (λ t.
        call-tallied (book_call size n c)
        ∙ ap (λ (z : ℕ). wrap (f bk.counts + z))
        (shown-tally p count g go.agree bk (book_call size n c) (said c) (shows size n p bk w c (eqb-true (cause_of (said c)) no_cause t))))
        (λ t.
        let refuses : cause_of (said c) ≢ no_cause = eqb-false (cause_of (said c)) no_cause t in
        ap (λ (z : Book). f z.counts) (call-left size n bk counted c refuses seven).0
        ∙ nothing bk.counts (gots_of (said c)) counted (refused-silent (said c) refuses))

    -- on the bytes of the book
    module _ (is : (c : RealCall) → step size c (lend p n bk) ≡ booked size n c bk) where
      booked-adds : (c : RealCall) → cause_of (said c) ≢ bad_shape → Adds size (lend p n bk) c
      booked-adds c seven =
          subst (λ (z : Stepped). f z.held.counts ≡ wrap (f (lend p n bk).counts + count (gots_of z.return))) (sym (is c))
          (unfold lend in call-adds c seven)

      -- every call; a resolving, a store and a new epoch are not given the counts
      step-adds : (c : RealCall) → Adds size (lend p n bk) c
      step-adds (real.planning m d t e bytes plan send) =
          booked-adds (real.planning m d t e bytes plan send) (unfold return_for in planning-not-7 t bytes plan send (checked size m d n) _)
      step-adds (real.resolving m d t e plan replies answer) = unfold step lend gots_of in nothing bk.counts [] counted refl
      step-adds (real.push m d bytes) = booked-adds (real.push m d bytes) (unfold return_for cause_of in push-not-7 (checked size m d n) bytes)
      step-adds (real.lookup m d t e k c) =
          booked-adds (real.lookup m d t e k c) (unfold return_for cause_of in single-not-7 (checked size m d n) (book.lookup k c t e) _)
      step-adds (real.store m d e k c v x) = unfold step lend gots_of in nothing bk.counts [] counted refl
      step-adds (real.invalidate m d k) =
          booked-adds (real.invalidate m d k) (unfold return_for cause_of in single-not-7 (checked size m d n) (book.invalidate k) _)
      step-adds real.new_epoch = unfold step lend gots_of in nothing bk.counts [] counted refl

  -- ---- a sequence

  module _ (size mode ttl : ℕ) (s : Bytes) (lent : Counts) (set-up : (setup_by size mode ttl s).cause ≡ no_cause) (counted : Counted lent)
      (held : AllHeld size mode ttl s lent) where
    abbrev start : Held
    start = after_setup size mode ttl s lent

    -- so does every call after some
    after-adds : (before : List RealCall) → All Given before → (c : RealCall) → Adds size (held_by size mode ttl s lent before) c
    after-adds before given c =
        subst (λ (h : Held). Adds size h c) (sym (held before given))
        (step-adds size (length s) (book_by size mode ttl s lent before) (rows-formed size mode ttl s lent set-up counted before given)
        (counts-formed size mode ttl s lent set-up counted before) (next-step size mode ttl s lent set-up counted before given) c)

    -- the last of some calls comes last
    held-last : (before : List RealCall) (c : RealCall) (h : Held) → held_after size (before ++ (c ∷ [])) h ≡ (step size c (held_after size before h)).held
    unfolding held_after
    held-last [] c h = refl
    held-last (b ∷ before) c h = held-last before c (step size b h).held

    -- and all of some calls together add what their returns show
    calls-add : (before cs : List RealCall) → All Given (before ++ cs) → (m : ℕ) → f (held_after size before start).counts ≡ wrap m
        → f (held_after size cs (held_after size before start)).counts ≡ wrap (m + total count (returns size cs (held_after size before start)))
    unfolding held_after returns total
    calls-add before [] given m q = q ∙ ap wrap (omega arith)
    calls-add before (c ∷ cs) given m q =
        let h : Held = held_after size before start in
        let shown : ℕ = count (gots_of (step size c h).return) in
        let last : held_after size (before ++ (c ∷ [])) start ≡ (step size c h).held = held-last before c start in
        let sum : f (held_after size (before ++ (c ∷ [])) start).counts ≡ wrap (m + shown) =
        ap (λ (z : Held). f z.counts) last ∙ after-adds before (given-front before (c ∷ cs) given) c
        ∙ ap (λ (z : ℕ). wrap (z + shown)) q ∙ mod-add-mod m (2 ^ 64) shown in
        subst (λ (z : Held). f (held_after size cs z).counts ≡ wrap (m + shown + total count (returns size cs z))) last
        (calls-add (before ++ (c ∷ [])) cs (rw append_assoc given) (m + shown) sum)
        ∙ ap wrap (omega arith)

    -- from setup on
    totalled : (cs : List RealCall) → All Given cs
        → f (held_by size mode ttl s lent cs).counts ≡ wrap (f lent + total count (answers_to size mode ttl s lent cs))
    unfolding held_after
    totalled cs given = calls-add [] cs given (f lent) (sym (mod-eq_of_lt (go.below lent counted)))

-- ---- the clauses

-- hits are what is shown with a value
hits-go : Goes (λ c. c.hits) served hits_in
hits-go = record { agree = served-agree; below = λ c w. w.hits; tallied = hits-tallied }

-- misses are what is shown without
misses-go : Goes (λ c. c.misses) unserved misses_in
misses-go = record { agree = unserved-agree; below = λ c w. w.misses; tallied = misses-tallied }

module _ (size mode ttl : ℕ) (s : Bytes) (lent : Counts) (set-up : (setup_by size mode ttl s).cause ≡ no_cause) (counted : Counted lent)
    (held : AllHeld size mode ttl s lent) (cs : List RealCall) (given : All Given cs) where
  pub hits-field : (held_by size mode ttl s lent cs).counts.hits ≡ wrap (lent.hits + total served (answers_to size mode ttl s lent cs))
  hits-field = totalled (λ c. c.hits) served hits_in hits-go size mode ttl s lent set-up counted held cs given

  pub misses-field : (held_by size mode ttl s lent cs).counts.misses ≡ wrap (lent.misses + total unserved (answers_to size mode ttl s lent cs))
  misses-field = totalled (λ c. c.misses) unserved misses_in misses-go size mode ttl s lent set-up counted held cs given
