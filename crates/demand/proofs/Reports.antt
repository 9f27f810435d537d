-- The clause `reported`, and its corollary: a resolving reports as many stores as the space rule refuses, and no other call reports any. Assumes
-- that setup was not refused, and that the call's return is the book's reply's (`answers`).
use Rattle.std.proofs.Math.Path.{◌≡◌, refl, sym, ap}
use Rattle.std.proofs.Common.{◌∙◌, arith}
use Rattle.std.specs.Prelude.{Result, Ok, Err, ℕ, Bool, leb, ltb, length}
use Rattle.std.proofs.Math.Option.{Option, none, some}
use mathlib.Core.List.{List, [], ◌∷◌, ◌++◌}
use Rattle.buffer.specs.Cases.{by_test}
use Rattle.buffer.specs.Same.{Bytes}
use Rattle.config.specs.Limits.{max_bytes}
use Rattle.config.specs.Config.{checked}
use Rattle.config.specs.declared.Settings.{Settings}
use Rattle.std.specs.Prelude.{Ok, Err, Result}
use Rattle.config.specs.declared.Cause.{Cause}
use Rattle.resp3.specs.Ends.{is_value}
use Rattle.resp3.specs.Decode as resp
use Rattle.call_record.specs.Check.{check_def}
use Rattle.format.specs.declared.Wrong.{Wrong}
use Rattle.cursor.specs.At.{record_at}
use Rattle.book.specs.Book as book
use Rattle.book.specs.Book.{Setup, Book, Counts, Answer, Keyed, fresh}
use Rattle.book.specs.Calls as calls
use Rattle.book.specs.Calls.{Wanted, Storing, Call, reply_to, after_calls}
use Rattle.book.proofs.Trace.{Proper}
use Rattle.book.proofs.Demand3Laws.{demand-three}
use Rattle.planning.specs.Ask.{any_late}
use Rattle.planning.specs.Plan as nodes
use Rattle.plan.specs.Decode.{decode_plan}
use Rattle.resolving_walk.specs.Commands.{plan_read}
use Rattle.resolving.specs.Resolve.{Resolved, cause7, answered, resolve}
use Rattle.resolving.specs.Result.{result_bytes}
use Rattle.arena.specs.Held.{Held}
use Rattle.call_entry.specs.Entered.{no_cause}
use Rattle.caching.specs.declared.resolve_call.RedisCacheResolve.{RedisCacheResolve}
use Rattle.single_calls.specs.AsCall as singles
use Rattle.caching_cmd.specs.Call.{fits, told_to, refused_of}
use Rattle.caching_cmd.specs.Told.{told_by}
use Rattle.demand.specs.Call as real
use Rattle.demand.specs.Call.{RealCall, setup_by, step, if_fine, book_call, book_calls}
use Rattle.demand.specs.Demand.{setup, told, held_by, CallIn, returned, book_before}
use Rattle.demand.specs.Replies.{Reply, respond, return_for, plan_reply, record_reply, planning_return, result_reply, resolved_reply, plan_lent, resolving_return}
use Rattle.demand.specs.CorollaryWords.{reported_by, lacking_in}
use Rattle.demand.specs.Corollaries.{response}
use Rattle.demand.proofs.Laws.{setup-proper}
use Rattle.demand.proofs.BookCalls.{of-single, of-push, of-planning, of-resolving, of-fine}

module _ (size n : ℕ) (p : Setup) (o : Proper p) (lent : Counts) (before : List Call) where
  -- the book before the call
  abbrev bk : Book
  bk = after_calls p before (fresh lent)

  -- a planning reports none
  planning-none : (t : ℕ) (bytes plan send : Bytes) (x : Result Settings Cause) (reply : Reply) → reported_by (planning_return t bytes plan send x reply) ≡ 0
  unfolding reported_by planning_return
  planning-none t bytes plan send (Err cause) reply = refl
  planning-none t bytes plan send (Ok g) reply =
      by_test (ltb max_bytes (length bytes)) (λ u. rw u) (λ u. rw u (by-record (check_def bytes)))
    where
      by-reply : (z : Reply) → reported_by (plan_reply t bytes plan send g z) ≡ 0
      by-reply none = unfold reported_by plan_reply in refl
      by-reply (some said) = unfold reported_by plan_reply in refl

      by-record : (k : Result (Unit {0}) Wrong) → reported_by (record_reply t bytes plan send g k reply) ≡ 0
      by-record (Err w) = unfold reported_by record_reply in refl
      by-record (Ok u) =
          unfold record_reply in
          by_test (any_late g t (record_at bytes).commands) (λ u. rw u (unfold reported_by in refl)) (λ u. rw u (by-reply reply))

  -- a call of the book of which the space rule refuses no store
  abbrev Lacks : Call → Type 0
  Lacks c = 0 ≡ lacking_in p c bk

  -- a refused call, and each kind but resolvings
  refused-lacks : Lacks calls.refused
  unfolding lacking_in
  refused-lacks = refl

  planning-lacks : (t e : ℕ) (ws : List Wanted) (test : List Answer → Bool) → Lacks (calls.planning t e ws test)
  unfolding lacking_in
  planning-lacks t e ws test = refl

  keys-lack : (ks : List Bytes) → Lacks (calls.push ks)
  unfolding lacking_in
  keys-lack ks = refl

  all-lack : Lacks calls.push_all
  unfolding lacking_in
  all-lack = refl

  one-lacks : (q : Keyed) → Lacks (calls.single q)
  unfolding lacking_in
  one-lacks q = refl

  single-lacks : (q : Keyed) (x : Result Settings Cause) → Lacks (if_fine x (λ g. singles.call_of q))
  single-lacks q x = of-fine Lacks x (λ g. singles.call_of q) refused-lacks (λ g. of-single Lacks q refused-lacks (one-lacks q))

  -- a resolving reports what its stores lack
  stores-lack : (e : ℕ) (ss : List Storing) → refused_of (reply_to p (calls.resolving e ss) bk) ≡ lacking_in p (calls.resolving e ss) bk
  unfolding lacking_in refused_of
  stores-lack e ss =
      let x = (demand-three p o lent (before ++ (calls.resolving e ss ∷ []))).reported before [] e ss refl in
      ap refused_of x.1 ∙ x.2

  module _ (t e : ℕ) (replies answer : Bytes) where
    -- past causes 7 and 8, then 6 and 10, then 1
    resolved-lacks : (pl : nodes.Plan) (v : Resolved)
        → reported_by (resolved_reply t replies answer pl v (reply_to p (told_to pl.transaction e v (length answer)) bk))
        ≡ lacking_in p (told_to pl.transaction e v (length answer)) bk
    unfolding reported_by resolved_reply result_reply told_to fits
    resolved-lacks pl (cause7 ss) = unfold lacking_in in refl
    resolved-lacks pl (answered vs ss) =
        by_test (leb (length (result_bytes pl.transaction vs)) (length answer)) (λ u. rw u (stores-lack e ss)) (λ u. rw u (unfold lacking_in in refl))

    plan-lacks : (g : Settings) (z : Option nodes.Plan)
        → reported_by (plan_lent t replies answer g z (reply_to p (told_by g.mode z replies t e (length answer)) bk))
        ≡ lacking_in p (told_by g.mode z replies t e (length answer)) bk
    unfolding plan_lent told_by
    plan-lacks g none = unfold reported_by lacking_in in refl
    plan-lacks g (some pl) =
        by_test (is_value replies) (λ u. rw u (resolved-lacks pl (resolve (plan_read pl) g.mode t (resp.decode replies))))
        (λ u. rw u (unfold reported_by lacking_in in refl))

    resolving-lacks : (plan : Bytes) (x : Result Settings Cause)
        → reported_by (resolving_return t replies answer x plan (reply_to p (if_fine x (λ g. told_by g.mode (decode_plan plan) replies t e (length answer))) bk))
        ≡ lacking_in p (if_fine x (λ g. told_by g.mode (decode_plan plan) replies t e (length answer))) bk
    unfolding resolving_return
    resolving-lacks plan (Err cause) = unfold reported_by lacking_in in refl
    resolving-lacks plan (Ok g) = plan-lacks g (decode_plan plan)

  -- every call
  pub reported-for : (c : RealCall) → reported_by (return_for size n c (respond p size n c bk)) ≡ lacking_in p (book_call size n c) bk
  unfolding return_for book_call
  reported-for (real.planning m d t e bytes plan send) =
      planning-none t bytes plan send (checked size m d n) _
      ∙ of-fine Lacks (checked size m d n) _ refused-lacks
      (λ g. of-planning Lacks g t e bytes (length plan) (length send) refused-lacks (planning-lacks t e))
  reported-for (real.resolving m d t e plan replies answer) = resolving-lacks t e replies answer plan (checked size m d n)
  reported-for (real.push m d bytes) =
      unfold reported_by in of-fine Lacks (checked size m d n) _ refused-lacks (λ g. of-push Lacks keys-lack all-lack bytes refused-lacks)
  reported-for (real.lookup m d t e k c) = unfold reported_by in single-lacks (book.lookup k c t e) (checked size m d n)
  reported-for (real.store m d e k c v x) = unfold reported_by in single-lacks (book.store k c v x e) (checked size m d n)
  reported-for (real.invalidate m d k) = unfold reported_by in single-lacks (book.invalidate k) (checked size m d n)
  reported-for real.new_epoch = unfold reported_by lacking_in in refl

  -- ---- as the book's own replies have it

  -- of a resolving, which is the only call that returns so
  abbrev Refuses : Call → Type 0
  Refuses c = lacking_in p c bk ≡ refused_of (reply_to p c bk)

  none-refused : Refuses calls.refused
  unfolding lacking_in refused_of calls.call-defs
  none-refused = refl

  stopped-refuses : (e : ℕ) (ss : List Storing) → Refuses (calls.resolving7 e ss)
  unfolding lacking_in refused_of calls.call-defs
  stopped-refuses e ss = refl

  told-refuses : (m d t e : ℕ) (plan replies answer : Bytes) → Refuses (book_call size n (real.resolving m d t e plan replies answer))
  unfolding book_call
  told-refuses m d t e plan replies answer =
      of-fine Refuses (checked size m d n) _ none-refused
      (λ g.
      of-resolving Refuses g.mode replies t e (length answer) none-refused (λ ss. sym (stores-lack e ss)) (stopped-refuses e) (decode_plan plan))

  pub resolved-refuses : (c : RealCall) (h : Held) (r : RedisCacheResolve) (buffer : Bytes) → (step size c h).return ≡ real.resolved r buffer
      → Refuses (book_call size n c)
  unfolding step
  resolved-refuses (real.planning m d t e bytes plan send) h r buffer q = absurd (let z : ◌≡◌ {A = ℕ} 0 1 = cc in omega arith)
  resolved-refuses (real.resolving m d t e plan replies answer) h r buffer q = told-refuses m d t e plan replies answer
  resolved-refuses (real.push m d bytes) h r buffer q = absurd (let z : ◌≡◌ {A = ℕ} 0 1 = cc in omega arith)
  resolved-refuses (real.lookup m d t e k c) h r buffer q = absurd (let z : ◌≡◌ {A = ℕ} 0 1 = cc in omega arith)
  resolved-refuses (real.store m d e k c v x) h r buffer q = absurd (let z : ◌≡◌ {A = ℕ} 0 1 = cc in omega arith)
  resolved-refuses (real.invalidate m d k) h r buffer q = absurd (let z : ◌≡◌ {A = ℕ} 0 1 = cc in omega arith)
  resolved-refuses real.new_epoch h r buffer q = absurd (let z : ◌≡◌ {A = ℕ} 0 1 = cc in omega arith)

-- the corollary, and the clause
module _ (size mode ttl : ℕ) (s : Bytes) (lent : Counts) (set-up : (setup_by size mode ttl s).cause ≡ no_cause) (cs : List RealCall)
    (a : CallIn size mode ttl s lent cs)
    (is : returned size mode ttl s lent a ≡ return_for size (length s) a.call (response size mode ttl s lent a)) where
  pub reported-field : reported_by (returned size mode ttl s lent a)
      ≡ lacking_in (setup size mode ttl s lent) (told size mode ttl s lent a.call) (book_before size mode ttl s lent a)
  reported-field =
      ap reported_by is
      ∙ reported-for size (length s) (setup size mode ttl s lent) (setup-proper size mode ttl s lent set-up) lent
      (book_calls size (length s) a.before) a.call

  pub refused-field : (r : RedisCacheResolve) (buffer : Bytes) → returned size mode ttl s lent a ≡ real.resolved r buffer
      → r.refused ≡ refused_of (reply_to (setup size mode ttl s lent) (told size mode ttl s lent a.call) (book_before size mode ttl s lent a))
  unfolding reported_by
  refused-field r buffer q =
      sym (ap reported_by q) ∙ reported-field
      ∙ resolved-refuses size (length s) (setup size mode ttl s lent) (setup-proper size mode ttl s lent set-up) lent
      (book_calls size (length s) a.before) a.call (held_by size mode ttl s lent a.before) r buffer q
