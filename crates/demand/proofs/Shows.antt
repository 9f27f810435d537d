-- What a call that passes shows of its lookups is the book's reply, event by event: a value for each hit, nothing for all else. Assumes that the rows
-- before the call are well-formed, as those of every book that calls leave are.
use Rattle.std.proofs.Math.Path.{◌≡◌, refl, ap}
use Rattle.std.proofs.Common.{sym, ◌∙◌}
use Rattle.std.specs.Prelude.{ℕ, true, leb, length}
use native.Mathlib.Omega.{arith}
use Rattle.std.proofs.Math.Option.{Option, none, some}
use mathlib.Core.List.{List, [], ◌∷◌, map}
use Rattle.buffer.specs.Cases.{by_test}
use Rattle.buffer.specs.Same.{Bytes}
use Rattle.config.specs.Config.{checked}
use Rattle.config.specs.declared.Settings.{Settings}
use Rattle.std.specs.Prelude.{Ok, Err, Result}
use Rattle.config.specs.declared.Cause.{Cause}
use Rattle.resp3.specs.Ends.{is_value}
use Rattle.resp3.specs.Decode as resp
use Rattle.cursor.specs.At.{record_at}
use Rattle.book.specs.Book as book
use Rattle.book.specs.Book.{Setup, Book, Answer, Keyed, on, answers, answer_to}
use Rattle.book.specs.Calls as calls
use Rattle.book.specs.Calls.{Storing, Call, stores, invalidations, ons, events_of, reply_to, call-defs}
use Rattle.arena.specs.Tests.{WellFormed}
use Rattle.arena.proofs.Sequence.{outcome_of}
use Rattle.planning.specs.Plan as nodes
use Rattle.plan.specs.Decode.{decode_plan}
use Rattle.resolving_walk.specs.Commands.{plan_read}
use Rattle.resolving.specs.Resolve.{Resolved, cause7, answered, resolve}
use Rattle.resolving.specs.Result.{result_bytes}
use Rattle.single_calls.specs.Single as one
use Rattle.call_entry.specs.Entered.{no_cause}
use Rattle.single_calls.specs.AsCall as singles
use Rattle.single_calls.specs.Place.{served_at}
use Rattle.cache_manager.specs.Call as told
use Rattle.caching.specs.Exported.{flag_of, bytes_of}
use Rattle.demand.specs.Call as real
use Rattle.demand.specs.Call.{RealCall, Return, cause_of, if_fine, book_call}
use Rattle.demand.specs.Words.{gots_of, lookups_in}
use Rattle.demand.specs.Replies.{Reply, respond, return_for, planning_return, result_reply, resolved_reply, plan_lent, resolving_return, single_number}
use Rattle.demand.specs.Replies.{single_value}
use Rattle.demand.proofs.BookCalls.{of-single, of-push, of-resolving, of-fine}
use Rattle.demand.proofs.Places.{got_by, plan-places, dry-places, dry-count}
use Rattle.demand.proofs.Plannings.{ws, said, Passing, passing, gots-places}

-- a return shows the answers to a call's lookups; a call without lookups shows nothing
pub data Shows (p : Setup) (bk : Book) (c : Call) (r : Return) : Type 0 where
  asked : (said : List Answer) → reply_to p c bk ≡ some said → length said ≡ lookups_in (events_of c) → gots_of r ≡ map got_by said → Shows p bk c r
  unasked : lookups_in (events_of c) ≡ 0 → gots_of r ≡ [] → Shows p bk c r

-- ---- a planning and a single lookup

module _ (p : Setup) (bk : Book) where
  -- a planning shows a place for each lookup, with its answer
  passing-shows : (g : Settings) (t e : ℕ) (bytes d f : Bytes) → WellFormed is_value p bk.rows → {r : Return} → Passing g t e bytes d f p bk r
      → Shows p bk (told.book_call g t e bytes (length d) (length f)) r
  unfolding events_of
  passing-shows g t e bytes d f w x =
      asked (said g t e bytes d f p bk) x.reply
      (dry-count p bk t e (ws g t e bytes d f p bk) ∙ ap (λ (c : Call). lookups_in (events_of c)) (sym x.told))
      (gots-places g t e bytes d f p bk w x ∙ plan-places g t (record_at bytes).commands (said g t e bytes d f p bk)
      ∙ dry-places p bk t e (ws g t e bytes d f p bk))

  planning-shows : (t e : ℕ) (bytes d f : Bytes) → WellFormed is_value p bk.rows → (x : Result Settings Cause)
      → cause_of (planning_return t bytes d f x (reply_to p (if_fine x (λ g. told.book_call g t e bytes (length d) (length f))) bk)) ≡ no_cause
      → Shows p bk (if_fine x (λ g. told.book_call g t e bytes (length d) (length f)))
      (planning_return t bytes d f x (reply_to p (if_fine x (λ g. told.book_call g t e bytes (length d) (length f))) bk))
  planning-shows t e bytes d f w (Err cause) k = absurd (let z : ◌≡◌ {A = ℕ} 1 0 = unfold planning_return cause_of in k in omega arith)
  planning-shows t e bytes d f w (Ok g) k = passing-shows g t e bytes d f w (passing g t e bytes d f p bk k)

  -- a single lookup
  abbrev look_return : ℕ → Result Settings Cause → Keyed → Reply → Return
  look_return at x q o =
      real.looked_up (record { cause = single_number x q o; hit = flag_of (single_value x o) }) (served_at (single_value x o) at) (bytes_of (single_value x o))

  -- a number of 0 goes with an answer that is shown
  answer-shown : (at : ℕ) (a : Answer) → one.number_of a ≡ no_cause
      → gots_of (real.looked_up (record { cause = one.number_of a; hit = flag_of (one.served_by a) }) at (bytes_of (one.served_by a))) ≡ got_by a ∷ []
  unfolding gots_of got_by one.number_of one.served_by
  answer-shown at (book.hit v) k = refl
  answer-shown at book.miss k = refl
  answer-shown at book.stored k = refl
  answer-shown at book.no_space k = absurd (let z : ◌≡◌ {A = ℕ} 11 0 = k in omega arith)
  answer-shown at book.invalidated k = refl
  answer-shown at (book.number n) k = refl

  module _ (at : ℕ) (k c : Bytes) (t e : ℕ) where
    abbrev q : Keyed
    q = book.lookup k c t e

    -- a lookup that passes shows its answer, and one that cause 3 refuses does not pass
    single-shows : (g : Settings) → cause_of (look_return at (Ok g) q (reply_to p (calls.single q) bk)) ≡ no_cause
        → Shows p bk (calls.single q) (look_return at (Ok g) q (reply_to p (calls.single q) bk))
    unfolding cause_of single_number single_value singles.outcome_number singles.outcome_value outcome_of call-defs ons answers lookups_in
    single-shows g z = asked (answer_to p (on q) bk ∷ []) refl refl (answer-shown _ (answer_to p (on q) bk) z)

    denied-shows : (g : Settings) → one.overlong q ≡ true → cause_of (look_return at (Ok g) q (reply_to p calls.refused bk)) ≡ no_cause → ⊥
    unfolding cause_of single_number singles.outcome_number outcome_of call-defs
    denied-shows g u z = let y : ◌≡◌ {A = ℕ} 3 0 = rw u at z in omega arith

    lookup-shows : (x : Result Settings Cause) → cause_of (look_return at x q (reply_to p (if_fine x (λ g. singles.call_of q)) bk)) ≡ no_cause
        → Shows p bk (if_fine x (λ g. singles.call_of q)) (look_return at x q (reply_to p (if_fine x (λ g. singles.call_of q)) bk))
    unfolding singles.call_of one.wrong_bytes
    lookup-shows (Err cause) z = absurd (let y : ◌≡◌ {A = ℕ} 1 0 = unfold cause_of single_number in z in omega arith)
    lookup-shows (Ok g) z =
        by_test (one.overlong q) (λ u. absurd (denied-shows g u (rw u at z))) (λ u. rw u (single-shows g (rw u at z)))

-- ---- calls without lookups

-- no event is a lookup
abbrev Quiet : Call → Type 0
Quiet c = lookups_in (events_of c) ≡ 0

-- a refused call, and each kind but plannings and lookups
refused-quiet : Quiet calls.refused
unfolding lookups_in events_of
refused-quiet = refl

stores-quiet : (e : ℕ) (ss : List Storing) → lookups_in (ons (stores e ss)) ≡ 0
unfolding lookups_in ons stores
stores-quiet e [] = refl
stores-quiet e (x ∷ ss) = stores-quiet e ss

resolving-quiet : (e : ℕ) (ss : List Storing) → Quiet (calls.resolving e ss)
unfolding events_of
resolving-quiet e ss = stores-quiet e ss

resolving7-quiet : (e : ℕ) (ss : List Storing) → Quiet (calls.resolving7 e ss)
unfolding events_of
resolving7-quiet e ss = stores-quiet e ss

keys-quiet : (ks : List Bytes) → lookups_in (ons (invalidations ks)) ≡ 0
unfolding lookups_in ons invalidations
keys-quiet [] = refl
keys-quiet (k ∷ ks) = keys-quiet ks

push-quiet : (ks : List Bytes) → Quiet (calls.push ks)
unfolding events_of
push-quiet ks = keys-quiet ks

all_quiet : Quiet calls.push_all
unfolding lookups_in events_of
all_quiet = refl

store-quiet : (k c v : Bytes) (x e : ℕ) → Quiet (calls.single (book.store k c v x e))
unfolding lookups_in events_of ons
store-quiet k c v x e = refl

invalidate-quiet : (k : Bytes) → Quiet (calls.single (book.invalidate k))
unfolding lookups_in events_of ons
invalidate-quiet k = refl

-- a resolving shows nothing
module _ (t : ℕ) (replies answer : Bytes) where
  plan-silent : (g : Settings) (z : Option nodes.Plan) (o : Reply) → gots_of (plan_lent t replies answer g z o) ≡ []
  unfolding gots_of plan_lent
  plan-silent g none o = refl
  plan-silent g (some pl) o =
      by_test (is_value replies) (λ u. rw u (by-resolved (resolve (plan_read pl) g.mode t (resp.decode replies)))) (λ u. rw u)
    where
      by-resolved : (v : Resolved) → gots_of (resolved_reply t replies answer pl v o) ≡ []
      by-resolved (cause7 ss) = unfold gots_of resolved_reply in refl
      by-resolved (answered vs ss) =
          unfold gots_of resolved_reply result_reply in by_test (leb (length (result_bytes pl.transaction vs)) (length answer)) (λ u. rw u) (λ u. rw u)

  resolving-silent : (plan : Bytes) (x : Result Settings Cause) (o : Reply) → gots_of (resolving_return t replies answer x plan o) ≡ []
  unfolding resolving_return
  resolving-silent plan (Err cause) o = unfold gots_of in refl
  resolving-silent plan (Ok g) o = plan-silent g (decode_plan plan) o

-- ---- every call that passes

pub shows : (size n : ℕ) (p : Setup) (bk : Book) → WellFormed is_value p bk.rows → (c : RealCall)
    → cause_of (return_for size n c (respond p size n c bk)) ≡ no_cause
    → Shows p bk (book_call size n c) (return_for size n c (respond p size n c bk))
unfolding return_for book_call
shows size n p bk w (real.planning m d t e bytes plan send) k = planning-shows p bk t e bytes plan send w (checked size m d n) k
shows size n p bk w (real.resolving m d t e plan replies answer) k =
    unasked
    (of-fine Quiet (checked size m d n) _ refused-quiet
    (λ g. of-resolving Quiet g.mode replies t e (length answer) refused-quiet (resolving-quiet e) (resolving7-quiet e) (decode_plan plan)))
    (resolving-silent t replies answer plan (checked size m d n) _)
shows size n p bk w (real.push m d bytes) k =
    unasked (of-fine Quiet (checked size m d n) _ refused-quiet (λ g. of-push Quiet push-quiet all_quiet bytes refused-quiet)) (unfold gots_of in refl)
shows size n p bk w (real.lookup m d t e key command) k = lookup-shows p bk _ key command t e (checked size m d n) k
shows size n p bk w (real.store m d e key command v x) k =
    unasked (of-fine Quiet (checked size m d n) _ refused-quiet (λ g. of-single Quiet _ refused-quiet (store-quiet key command v x e))) (unfold gots_of in refl)
shows size n p bk w (real.invalidate m d key) k =
    unasked (of-fine Quiet (checked size m d n) _ refused-quiet (λ g. of-single Quiet _ refused-quiet (invalidate-quiet key))) (unfold gots_of in refl)
shows size n p bk w real.new_epoch k = unasked (unfold lookups_in events_of in refl) (unfold gots_of in refl)
