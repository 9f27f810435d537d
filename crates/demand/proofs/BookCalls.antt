-- The calls that the book can be told of: what holds of a refused call and of the book's calls of a kind holds of the call that any arguments of that kind
-- make. Assumes nothing.
use Rattle.std.specs.Prelude.{Result, Ok, Err, ℕ, Bool, List, [], ltb, leb, length}
use Rattle.std.proofs.Math.Option.{Option, some}
use Rattle.std.proofs.Math.Option as option
use Rattle.buffer.specs.Cases.{by_test}
use Rattle.buffer.specs.Same.{Bytes}
use Rattle.config.specs.Limits.{max_bytes}
use Rattle.config.specs.declared.CacheMode.{CacheMode}
use Rattle.config.specs.declared.Settings.{Settings}
use Rattle.std.specs.Prelude.{Ok, Err, Result}
use Rattle.config.specs.declared.Cause.{Cause}
use Rattle.resp3.specs.Ends.{is_value}
use Rattle.resp3.specs.Value.{Value, Values, none, more}
use Rattle.resp3.specs.Decode as resp
use Rattle.resp3_element.specs.Meaning.{is_null, array_of, push_of}
use Rattle.call_record.specs.Check.{check_def}
use Rattle.format.specs.declared.Wrong.{Wrong}
use Rattle.cursor.specs.At.{record_at}
use Rattle.book.specs.Book.{Answer, Keyed}
use Rattle.book.specs.Calls as calls
use Rattle.book.specs.Calls.{Call, Wanted, Storing}
use Rattle.planning.specs.Ask.{ask, any_late}
use Rattle.planning.specs.Outcome.{wanted}
use Rattle.planning.specs.Plan as nodes
use Rattle.planning.specs.Planning as planned
use Rattle.resolving_walk.specs.Commands.{plan_read}
use Rattle.resolving.specs.Pushes.{is_invalidate, invalidating, from_elements, from_push, pushed}
use Rattle.resolving.specs.Resolve as resolvings
use Rattle.resolving.specs.Resolve.{Resolved, cause7, answered}
use Rattle.resolving.specs.Result.{result_bytes}
use Rattle.single_calls.specs.Single as one
use Rattle.single_calls.specs.AsCall.{call_of}
use Rattle.push.specs.Push.{call_for}
use Rattle.cache_manager.specs.Call as plannings
use Rattle.cache_manager.specs.Call.{judged_call}
use Rattle.caching_cmd.specs.Call.{told_to, fits}
use Rattle.caching_cmd.specs.Told.{told_by}
use Rattle.demand.specs.Call.{if_fine}

module _ (P : Call → Type 0) where
  -- a single call, which causes 3 and 6 may refuse
  pub of-single : (q : Keyed) → P calls.refused → P (calls.single q) → P (call_of q)
  unfolding call_of
  of-single q denied done = by_test (one.overlong q) (λ t. rw t denied) (λ t. by_test (one.wrong_bytes q) (λ u. rw (t, u) denied) (λ u. rw (t, u) done))

  -- a push: keys, or everything
  module _ (keys : (ks : List Bytes) → P (calls.push ks)) (everything : P calls.push_all) where
    -- the second element decides, then the first, then whether it is a push at all
    by-second : (o : Option Values) (v : Value) → P (invalidating o (is_null v))
    by-second (some ks) v = keys _
    by-second option.none v = by_test (is_null v) (λ t. rw t everything) (λ t. rw t (keys []))

    by-elements : (vs : Values) → P (from_elements vs)
    by-elements none = keys []
    by-elements (more v none) = by_test (is_invalidate v) (λ t. rw t (keys [])) (λ t. rw t (keys []))
    by-elements (more v (more u vs)) = by_test (is_invalidate v) (λ t. rw t (by-second (array_of u) u)) (λ t. rw t (keys []))

    by-push : (o : Option Values) → P (from_push o)
    by-push option.none = keys []
    by-push (some vs) = by-elements vs

    pub of-pushed : (v : Value) → P (pushed v)
    unfolding pushed
    of-pushed v = by-push (push_of v)

    -- which cause 6 may refuse
    pub of-push : (bytes : Bytes) → P calls.refused → P (call_for bytes)
    unfolding call_for
    of-push bytes denied = by_test (is_value bytes) (λ t. rw t (of-pushed (resp.decode bytes))) (λ t. rw t denied)

  -- a planning, which causes 2, 3 and 4 may refuse
  module _ (g : Settings) (t e : ℕ) (bytes : Bytes) (a b : ℕ) (denied : P calls.refused)
      (done : (ws : List Wanted) (test : List Answer → Bool) → P (calls.planning t e ws test)) where
    by-record : (x : Result (Unit {0}) Wrong) → P (judged_call g t e bytes a b x)
    unfolding judged_call planned.call_of
    by-record (Ok u) =
        by_test (any_late g t (record_at bytes).commands) (λ l. rw l denied)
        (λ l. rw l (done (wanted (ask g t) (record_at bytes).commands) (planned.short (ask g t) g (record_at bytes) a b)))
    by-record (Err w) = denied

    pub of-planning : P (plannings.book_call g t e bytes a b)
    unfolding plannings.book_call
    of-planning = by_test (ltb max_bytes (length bytes)) (λ l. rw l denied) (λ l. rw l (by-record (check_def bytes)))

  -- a resolving, which causes 10, 6 and 8 may refuse
  module _ (mode : CacheMode) (replies : Bytes) (t e room : ℕ) (denied : P calls.refused)
      (done : (ss : List Storing) → P (calls.resolving e ss)) (stopped : (ss : List Storing) → P (calls.resolving7 e ss)) where
    by_result : (transaction : Bool) (v : Resolved) → P (told_to transaction e v room)
    unfolding told_to fits
    by_result transaction (cause7 ss) = stopped ss
    by_result transaction (answered vs ss) =
        by_test (leb (length (result_bytes transaction vs)) room) (λ t. rw t (done ss)) (λ t. rw t denied)

    pub of-resolving : (o : Option nodes.Plan) → P (told_by mode o replies t e room)
    unfolding told_by
    of-resolving option.none = denied
    of-resolving (some pl) =
        by_test (is_value replies) (λ u. rw u (by_result pl.transaction (resolvings.resolve (plan_read pl) mode t (resp.decode replies)))) (λ u. rw u denied)

  -- any of these, which cause 1 may refuse
  pub of-fine : (x : Result Settings Cause) (call : Settings → Call) → P calls.refused → ((g : Settings) → P (call g)) → P (if_fine x call)
  of-fine (Err cause) call denied done = denied
  of-fine (Ok g) call denied done = done g
