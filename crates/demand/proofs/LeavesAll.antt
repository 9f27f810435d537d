-- A refused call, 7 aside, leaves arena, counts, next number and its buffers as they were. Assumes what InTurn.antt does.
use Rattle.std.specs.Prelude.{Result, Ok, Err, ◌≡◌, ◌≢◌, ℕ, Bool, cond, List, [], ◌∷◌, ◌++◌, ltb, leb, eqb, length}
use Rattle.std.proofs.Math.Path.{refl, fun_ext}
use Rattle.std.proofs.Common.{sym, ap, ◌∙◌, subst, append_assoc, eqb-true}
use Rattle.std.proofs.Math.Bool.{true, false}
use Rattle.std.proofs.Math.Option.{Option, some}
use Rattle.std.proofs.Math.Option as option
use Rattle.buffer.specs.Cases.{by_test}
use Rattle.buffer.specs.Same.{Bytes}
use Rattle.config.specs.Limits.{max_bytes}
use Rattle.config.specs.Causes.{bad_shape}
use Rattle.config.specs.Config.{refused, settings_of}
use Rattle.config.specs.declared.Settings.{Settings}
use Rattle.std.specs.Prelude.{Ok}
use Rattle.resp3.specs.Ends.{is_value}
use Rattle.resp3.specs.Decode as resp
use Rattle.call_record.specs.Check.{check_def}
use Rattle.format.specs.declared.Wrong.{Wrong}
use Rattle.cursor.specs.At.{record_at}
use Rattle.format.specs.Lists.{All}
use Rattle.book.specs.Book as book
use Rattle.book.specs.Book.{Setup, Book, Row, Item, Counts, Keyed, on, answers, answer_to, after, after_all, fresh}
use Rattle.book.specs.Calls as calls
use Rattle.book.specs.Calls.{Call, ons, lookups, after_call, reply_to, call-defs}
use Rattle.book.proofs.Counts.{store-counts}
use Rattle.book.specs.Counted.{Counted}
use Rattle.arena.proofs.Sequence.{outcome_of}
use Rattle.arena.specs.Held.{lend}
use Rattle.planning.specs.Ask.{ask, any_late}
use Rattle.planning.specs.Outcome.{wanted}
use Rattle.planning.specs.Plan as nodes
use Rattle.planning.specs.Planning as plans
use Rattle.plan.specs.Decode.{decode_plan}
use Rattle.resolving_walk.specs.Commands.{plan_read}
use Rattle.resolving.specs.Resolve as resolvings
use Rattle.resolving.specs.Resolve.{Resolved, cause7, answered}
use Rattle.resolving.specs.Result.{result_bytes}
use Rattle.single_calls.specs.Single as one
use Rattle.call_entry.specs.Entered.{no_cause}
use Rattle.single_calls.specs.AsCall.{call_of, outcome_number}
use Rattle.push.specs.Push.{call_for}
use Rattle.cache_manager.specs.Pipeline as pipeline
use Rattle.cache_manager.specs.Call as plannings
use Rattle.cache_manager.specs.Call.{judged_call}
use Rattle.caching_cmd.specs.Call.{told_to, fits}
use Rattle.caching_cmd.specs.Told.{told_by}
use Rattle.demand.specs.Call as real
use Rattle.demand.specs.Call.{RealCall, Given, Return, cause_of, setup_by, setup_with, book_call}
use Rattle.demand.specs.Demand.{CallIn, returned, number, held_then, book_by, setup}
use Rattle.demand.specs.Replies.{respond, return_for, plan_reply, record_reply, planning_return, result_reply, resolved_reply, plan_lent, resolving_return}
use Rattle.demand.specs.Replies.{single_number, push_number}
use Rattle.demand.specs.CorollaryWords.{mode_in, buffers_of, buffers_in}
use Rattle.demand.specs.Corollaries.{response, held_before}
use Rattle.demand.proofs.Bridge.{is-fine}
use Rattle.demand.proofs.ModeRefused.{is-bad}
use Rattle.demand.proofs.Sequences.{given-front, book-last}
use Rattle.demand.proofs.InTurn.{AllHeld, before-given, counts-formed}

-- ---- a store without space

module _ (p : Setup) (bk : Book) where
  -- a row put in its own place
  row_same : (s : ℕ) (i : ℕ) → book.set_row s (bk.rows s) bk.rows i ≡ bk.rows i
  unfolding book.set_row
  row_same s i = by_test (eqb i s) (λ t. rw t (ap bk.rows (sym (eqb-true i s t)))) (λ t. rw t)

  -- a store that answers 11 leaves row, counts and next number
  fit_row : (b : Bool) (new old : Row) → one.number_of (book.if_fits b new old).answer ≢ no_cause → (book.if_fits b new old).row ≡ old
  unfolding book.if_fits one.number_of
  fit_row true new old n = absurd (n refl)
  fit_row false new old n = refl

  store-stays : (k c v : Bytes) (x e : ℕ) → Counted bk.counts → one.number_of (answer_to p (on (book.store k c v x e)) bk) ≢ no_cause
      → after p (on (book.store k c v x e)) bk ≡ bk
  store-stays k c v x e w n = λ i. record { rows = rows_stay i; counts = store-counts p k c v x e bk w i; next = next-stays i }
    where
      rows_stay : (after p (on (book.store k c v x e)) bk).rows ≡ bk.rows
      rows_stay =
          unfold after book.put book.effect book.effect_on answer_to book.key_of in
          (ap (λ (z : Row). book.set_row (p.shard_of k) z bk.rows) (fit_row _ _ _ n) ∙ fun_ext (row_same (p.shard_of k)))

      next-stays : (after p (on (book.store k c v x e)) bk).next ≡ bk.next
      next-stays = unfold after book.put in refl

  -- lookups and invalidations are never without space
  serve-passes : (o : Option Bytes) (row : Row) → one.number_of (book.serve o row).answer ≡ no_cause
  unfolding book.serve one.number_of
  serve-passes option.none row = refl
  serve-passes (some v) row = refl

  item-passes : (o : Option Item) (k c : Bytes) (t e : ℕ) (row : Row) → one.number_of (book.lookup_item o k c t e row).answer ≡ no_cause
  unfolding book.lookup_item
  item-passes option.none k c t e row = unfold one.number_of in refl
  item-passes (some it) k c t e row =
      by_test (book.current t e it) (λ u. rw u (serve-passes (book.value_for c it.entries) _)) (λ u. rw u (unfold one.number_of in refl))

  -- so a single call whose number is not 0 leaves the book
  keyed_stays : (q : Keyed) → Counted bk.counts → one.number_of (answer_to p (on q) bk) ≢ no_cause → after p (on q) bk ≡ bk
  keyed_stays (book.lookup k c t e) w n = absurd (n (unfold answer_to book.effect book.effect_on in item-passes _ k c t e _))
  keyed_stays (book.store k c v x e) w n = store-stays k c v x e w n
  keyed_stays (book.invalidate k) w n = absurd (n (unfold answer_to book.effect book.effect_on one.number_of in refl))

  -- ---- the calls

  -- a refused call does nothing
  nothing : after_call p calls.refused bk ≡ bk
  unfolding call-defs after_all
  nothing = refl

  single-stays : (q : Keyed) → Counted bk.counts → outcome_number q (outcome_of (reply_to p (call_of q) bk)) ≢ no_cause → after_call p (call_of q) bk ≡ bk
  unfolding call_of
  single-stays q w =
      by_test (one.overlong q) (λ t. rw t (λ n. nothing))
      (λ t.
      by_test (one.wrong_bytes q) (λ u. rw (t, u) (λ n. nothing))
      (λ u. rw (t, u) (λ n. unfold call-defs ons after_all answers outcome_of outcome_number in keyed_stays q w n)))

  push-stays : (bytes : Bytes) → cond (is_value bytes) no_cause 6 ≢ no_cause → after_call p (call_for bytes) bk ≡ bk
  unfolding call_for
  push-stays bytes = by_test (is_value bytes) (λ t. rw t (λ n. absurd (n refl))) (λ t. rw t (λ n. nothing))

  -- what a call that does not pass leaves: the book, and the buffers
  abbrev Left : Call → Return → List Bytes → Type 0
  Left c r buffers = cause_of r ≢ no_cause → cause_of r ≢ bad_shape → (after_call p c bk ≡ bk) × (buffers_of r ≡ buffers)

  module _ (g : Settings) (t e : ℕ) (bytes plan send : Bytes) where
    -- causes 5, 4, 2 and 3
    planned-left : (c : Call) → any_late g t (record_at bytes).commands ≡ false
        → c ≡ calls.planning t e (wanted (ask g t) (record_at bytes).commands) (plans.short (ask g t) g (record_at bytes) (length plan) (length send))
        → Left c (plan_reply t bytes plan send g (reply_to p c bk)) (plan ∷ send ∷ [])
    unfolding plan_reply cause_of buffers_of call-defs after_all pipeline.cause_of
    planned-left c l is =
        rw is
        (by_test (plans.short (ask g t) g (record_at bytes) (length plan) (length send)
        (answers p (ons (lookups t e (wanted (ask g t) (record_at bytes).commands))) bk))
        (λ x. rw x (λ n m. (refl, refl)))
        (λ x. rw x (λ n m. absurd (n refl))))

    judged-left : (x : Result (Unit {0}) Wrong)
        → Left (judged_call g t e bytes (length plan) (length send) x)
        (record_reply t bytes plan send g x (reply_to p (judged_call g t e bytes (length plan) (length send) x) bk)) (plan ∷ send ∷ [])
    unfolding judged_call record_reply plans.call_of
    judged-left (Err w) = λ n m. (nothing, unfold buffers_of in refl)
    judged-left (Ok u) =
        by_test (any_late g t (record_at bytes).commands) (λ l. rw l (λ n m. (nothing, unfold buffers_of in refl))) (λ l. rw l (planned-left _ l refl))

    planning-left : Left (plannings.book_call g t e bytes (length plan) (length send))
        (planning_return t bytes plan send (Ok g) (reply_to p (plannings.book_call g t e bytes (length plan) (length send)) bk)) (plan ∷ send ∷ [])
    unfolding plannings.book_call planning_return
    planning-left =
        by_test (ltb max_bytes (length bytes)) (λ l. rw l (λ n m. (nothing, unfold buffers_of in refl))) (λ l. rw l (judged-left (check_def bytes)))

  module _ (g : Settings) (t e : ℕ) (replies answer : Bytes) where
    -- causes 8, 6 and 10
    resolved-left : (pl : nodes.Plan) (v : Resolved)
        → Left (told_to pl.transaction e v (length answer))
        (resolved_reply t replies answer pl v (reply_to p (told_to pl.transaction e v (length answer)) bk)) (answer ∷ [])
    unfolding told_to fits resolved_reply result_reply
    resolved-left pl (cause7 ss) = λ n m. absurd (m (unfold cause_of in refl))
    resolved-left pl (answered vs ss) =
        by_test (leb (length (result_bytes pl.transaction vs)) (length answer))
        (λ u. rw u (λ n m. absurd (n (unfold cause_of in refl))))
        (λ u. rw u (λ n m. (nothing, unfold buffers_of in refl)))

    resolving-left : (o : Option nodes.Plan)
        → Left (told_by g.mode o replies t e (length answer))
        (plan_lent t replies answer g o (reply_to p (told_by g.mode o replies t e (length answer)) bk)) (answer ∷ [])
    unfolding told_by plan_lent
    resolving-left option.none = λ n m. (nothing, unfold buffers_of in refl)
    resolving-left (some pl) =
        by_test (is_value replies)
        (λ u. rw u (resolved-left pl (resolvings.resolve (plan_read pl) g.mode t (resp.decode replies))))
        (λ u. rw u (λ n m. (nothing, unfold buffers_of in refl)))

module _ (size n : ℕ) (bk : Book) (w : Counted bk.counts) where
  -- the book's setup, and what a call leaves that does not pass
  abbrev p : Setup
  p = setup_with size n

  abbrev LeftBy : RealCall → Type 0
  LeftBy c = Left p bk (book_call size n c) (return_for size n c (respond p size n c bk)) (buffers_in c)

  -- cause 1, and the others
  mode-left : (c : RealCall) → refused size (mode_in c) n ≡ true → LeftBy c
  unfolding book_call return_for mode_in buffers_in planning_return resolving_return
  mode-left (real.planning m d t e bytes plan send) b = rw (is-bad size m d n b) (λ u v. (nothing p bk, unfold buffers_of in refl))
  mode-left (real.resolving m d t e plan replies answer) b = rw (is-bad size m d n b) (λ u v. (nothing p bk, unfold buffers_of in refl))
  mode-left (real.push m d bytes) b = rw (is-bad size m d n b) (λ u v. (nothing p bk, unfold buffers_of in refl))
  mode-left (real.lookup m d t e k c) b = rw (is-bad size m d n b) (λ u v. (nothing p bk, unfold buffers_of in refl))
  mode-left (real.store m d e k c x y) b = rw (is-bad size m d n b) (λ u v. (nothing p bk, unfold buffers_of in refl))
  mode-left (real.invalidate m d k) b = rw (is-bad size m d n b) (λ u v. (nothing p bk, unfold buffers_of in refl))
  mode-left real.new_epoch b = λ u v. absurd (u (unfold cause_of in refl))

  fine-left : (c : RealCall) → refused size (mode_in c) n ≡ false → LeftBy c
  unfolding book_call return_for mode_in buffers_in resolving_return single_number push_number
  fine-left (real.planning m d t e bytes plan send) f = rw (is-fine size n m d f) (planning-left p bk (settings_of size m d n) t e bytes plan send)
  fine-left (real.resolving m d t e plan replies answer) f =
      rw (is-fine size n m d f) (resolving-left p bk (settings_of size m d n) t e replies answer (decode_plan plan))
  fine-left (real.push m d bytes) f = rw (is-fine size n m d f) (unfold cause_of buffers_of in λ u v. (push-stays p bk bytes u, refl))
  fine-left (real.lookup m d t e k c) f = rw (is-fine size n m d f) (unfold cause_of buffers_of in λ u v. (single-stays p bk (book.lookup k c t e) w u, refl))
  fine-left (real.store m d e k c x y) f = rw (is-fine size n m d f) (unfold cause_of buffers_of in λ u v. (single-stays p bk (book.store k c x y e) w u, refl))
  fine-left (real.invalidate m d k) f = rw (is-fine size n m d f) (unfold cause_of buffers_of in λ u v. (single-stays p bk (book.invalidate k) w u, refl))
  fine-left real.new_epoch f = λ u v. absurd (u (unfold cause_of in refl))

  pub call-left : (c : RealCall) → LeftBy c
  call-left c = by_test (refused size (mode_in c) n) (λ b. mode-left c b) (λ f. fine-left c f)

module _ (size mode ttl : ℕ) (s : Bytes) (lent : Counts) (set-up : (setup_by size mode ttl s).cause ≡ no_cause) (counted : Counted lent) (cs : List RealCall)
    (given : All Given cs) (held : AllHeld size mode ttl s lent) where
  then-given : (a : CallIn size mode ttl s lent cs) → All Given (a.before ++ (a.call ∷ []))
  then-given a =
      given-front (a.before ++ (a.call ∷ [])) a.later
      (subst (λ (z : List RealCall). All Given z) (a.stands ∙ sym (append_assoc a.before (a.call ∷ []) a.later)) given)

  pub leaves-all-field : (a : CallIn size mode ttl s lent cs)
      → returned size mode ttl s lent a ≡ return_for size (length s) a.call (response size mode ttl s lent a)
      → number size mode ttl s lent a ≢ no_cause → number size mode ttl s lent a ≢ bad_shape
      → (held_then size mode ttl s lent a ≡ held_before size mode ttl s lent a) × (buffers_of (returned size mode ttl s lent a) ≡ buffers_in a.call)
  leaves-all-field a is n m = (
    held (a.before ++ (a.call ∷ [])) (then-given a)
        ∙ ap (lend (setup size mode ttl s lent) (length s))
        (book-last size (length s) (setup size mode ttl s lent) a.before a.call (fresh lent) ∙ both.0)
        ∙ sym (held a.before (before-given size mode ttl s lent set-up counted cs given a)),
    ap buffers_of is ∙ both.1,
  )
    where
      both :
          (after_call (setup size mode ttl s lent) (book_call size (length s) a.call) (book_by size mode ttl s lent a.before)
          ≡ book_by size mode ttl s lent a.before)
          × (buffers_of (return_for size (length s) a.call (response size mode ttl s lent a)) ≡ buffers_in a.call)
      both =
          call-left size (length s) (book_by size mode ttl s lent a.before) (counts-formed size mode ttl s lent set-up counted a.before) a.call
          (λ e. n (ap cause_of is ∙ e)) (λ e. m (ap cause_of is ∙ e))
