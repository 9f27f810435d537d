-- The whole return of a call, from its arguments and the book alone (`return_for`): what the clause `answers` of demand 3 comes to, computed. Its law is in
-- OneCall.antt, and nobody has to believe it. Assumes nothing: these are definitions.
use Rattle.std.specs.Prelude.{Result, Ok, Err, ℕ, cond, List, [], ◌∷◌, ltb, leb, length, replicate}
use Rattle.std.proofs.Math.Option.{Option, none, some}
use Rattle.buffer.specs.Same.{Bytes}
use Rattle.buffer.specs.Part.{put}
use Rattle.config.specs.Limits.{max_bytes}
use Rattle.config.specs.Causes.{bad_config, bad_record, too_long, late_expiry, short_buffer, bad_reply, bad_shape, short_answer, bad_plan}
use Rattle.config.specs.Config.{checked}
use Rattle.config.specs.declared.Settings.{Settings}
use Rattle.std.specs.Prelude.{Ok, Err, Result}
use Rattle.config.specs.declared.Cause.{Cause}
use Rattle.resp3.specs.Ends.{is_value}
use Rattle.resp3.specs.Decode as resp
use Rattle.call_record.specs.Check.{check_def}
use Rattle.format.specs.declared.Wrong.{Wrong}
use Rattle.cursor.specs.At.{record_at}
use Rattle.book.specs.Book as book
use Rattle.book.specs.Book.{Setup, Row, Book, Answer, Keyed}
use Rattle.book.specs.Calls as calls
use Rattle.book.specs.Calls.{Call, reply_to, after_call}
use Rattle.arena.specs.Place.{arena_place}
use Rattle.arena.proofs.Sequence.{outcome_of}
use Rattle.arena.specs.Held.{Held}
use Rattle.planning.specs.Ask.{ask, any_late}
use Rattle.planning.specs.Planning.{Planned, planned_from}
use Rattle.planning.specs.Plan as nodes
use Rattle.plan.specs.Decode.{decode_plan}
use Rattle.resolving_walk.specs.Commands.{plan_read}
use Rattle.resolving.specs.Resolve as resolvings
use Rattle.resolving.specs.Resolve.{Resolved, cause7, answered}
use Rattle.resolving.specs.Result.{result_bytes}
use Rattle.call_entry.specs.Entered.{no_cause}
use Rattle.single_calls.specs.AsCall.{outcome_number, outcome_value}
use Rattle.single_calls.specs.Place.{served_at}
use Rattle.cache_manager.specs.Pipeline.{wrote}
use Rattle.caching_cmd.specs.Call.{refused_of}
use Rattle.caching.specs.Exported.{flag_of, bytes_of}
use Rattle.caching.specs.Planned.{refused_return, plan_return}
use Rattle.demand.specs.Call.{RealCall, planning, resolving, push, lookup, store, invalidate, new_epoch, Return, planned, resolved, pushed}
use Rattle.demand.specs.Call.{looked_up, stored, invalidated, epoch_taken, book_call}

-- what the caller holds, with another next number
abbrev pub with_next : ℕ → Held → Held
with_next n h = record { arena = h.arena; counts = h.counts; next = n }

-- ---- the whole return

-- what the answer of each event is, or nothing where the book's call is refused
abbrev pub Reply : Type 0
Reply = Option (List Answer)

-- planning: causes 1, 3, 2, 4, 5; 5 is where the book's call is refused though its arguments pass
module _ (clock : ℕ) (bytes plan send : Bytes) where
  abbrev not_planned : ℕ → ℕ → Return
  not_planned cause at = planned (refused_return cause at) plan send

  abbrev written : Planned → Return
  written x = planned (plan_return (wrote (length x.plan) (length x.send) x.counts)) (put plan 0 x.plan) (put send 0 x.send)

  unfoldable pub plan_reply : Settings → Reply → Return
  plan_reply g none = not_planned short_buffer 0
  plan_reply g (some said) = written (planned_from (ask g clock) g (record_at bytes) said)

  unfoldable pub record_reply : Settings → Result (Unit {0}) Wrong → Reply → Return
  record_reply g (Err w) reply = not_planned bad_record w.at
  record_reply g (Ok u) reply = cond (any_late g clock (record_at bytes).commands) (not_planned late_expiry 0) (plan_reply g reply)

  unfoldable pub planning_return : Result Settings Cause → Reply → Return
  planning_return (Err cause) reply = not_planned bad_config 0
  planning_return (Ok g) reply = cond (ltb max_bytes (length bytes)) (not_planned too_long 0) (record_reply g (check_def bytes) reply)

-- resolving: causes 1, 10, 6, 7, 8; 7 zeroes the answer buffer
module _ (clock : ℕ) (replies answer : Bytes) where
  abbrev not_resolved : ℕ → Bytes → Return
  not_resolved cause buffer = resolved (record { cause = cause; answer = 0; refused = 0 }) buffer

  unfoldable pub result_reply : Bytes → Reply → Return
  result_reply bytes reply =
      cond (leb (length bytes) (length answer))
      (resolved (record { cause = no_cause; answer = length bytes; refused = refused_of reply }) (put answer 0 bytes)) (not_resolved short_answer answer)

  unfoldable pub resolved_reply : nodes.Plan → Resolved → Reply → Return
  resolved_reply p (cause7 ss) reply = not_resolved bad_shape (replicate (length answer) 0)
  resolved_reply p (answered vs ss) reply = result_reply (result_bytes p.transaction vs) reply

  unfoldable pub plan_lent : Settings → Option nodes.Plan → Reply → Return
  plan_lent g none reply = not_resolved bad_plan answer
  plan_lent g (some p) reply =
      cond (is_value replies) (resolved_reply p (resolvings.resolve (plan_read p) g.mode clock (resp.decode replies)) reply) (not_resolved bad_reply answer)

  unfoldable pub resolving_return : Result Settings Cause → Bytes → Reply → Return
  resolving_return (Err cause) plan reply = not_resolved bad_config answer
  resolving_return (Ok g) plan reply = plan_lent g (decode_plan plan) reply

-- a single call's number and value: causes 1, 3, 6, 11
unfoldable pub single_number : Result Settings Cause → Keyed → Reply → ℕ
single_number (Err cause) q reply = bad_config
single_number (Ok g) q reply = outcome_number q (outcome_of reply)

unfoldable pub single_value : Result Settings Cause → Reply → Option Bytes
single_value (Err cause) reply = none
single_value (Ok g) reply = outcome_value (outcome_of reply)

-- a push: causes 1, 6
unfoldable pub push_number : Result Settings Cause → Bytes → ℕ
push_number (Err cause) bytes = bad_config
push_number (Ok g) bytes = cond (is_value bytes) no_cause bad_reply

-- a new epoch: the number
unfoldable pub number_in : Reply → ℕ
number_in none = 0
number_in (some []) = 0
number_in (some (book.hit v ∷ said)) = 0
number_in (some (book.miss ∷ said)) = 0
number_in (some (book.stored ∷ said)) = 0
number_in (some (book.no_space ∷ said)) = 0
number_in (some (book.invalidated ∷ said)) = 0
number_in (some (book.number m ∷ said)) = m

-- where the value that a single lookup of the book is for stands in some rows; other calls hand out no part of the arena
unfoldable pub place_in : Setup → Call → (ℕ → Row) → ℕ
place_in p (calls.planning t e ws short) rows = 0
place_in p (calls.resolving e ss) rows = 0
place_in p (calls.resolving7 e ss) rows = 0
place_in p (calls.push ks) rows = 0
place_in p calls.push_all rows = 0
place_in p (calls.single (book.lookup k c t e)) rows = arena_place p k c rows
place_in p (calls.single (book.store k c v x e)) rows = 0
place_in p (calls.single (book.invalidate k)) rows = 0
place_in p calls.take_epoch rows = 0
place_in p calls.refused rows = 0

-- what the book says to a call: its reply, and that place in the rows that the call leaves
pub record Response : Type 0 where
  pub reply : Reply
  pub place : ℕ

abbrev pub respond : Setup → ℕ → ℕ → RealCall → Book → Response
respond p size n c bk =
    record { reply = reply_to p (book_call size n c) bk; place = place_in p (book_call size n c) (after_call p (book_call size n c) bk).rows }

unfoldable pub return_for : ℕ → ℕ → RealCall → Response → Return
return_for size n (planning mode ttl clock epoch bytes plan send) r = planning_return clock bytes plan send (checked size mode ttl n) r.reply
return_for size n (resolving mode ttl clock epoch plan replies answer) r = resolving_return clock replies answer (checked size mode ttl n) plan r.reply
return_for size n (push mode ttl bytes) r = pushed (push_number (checked size mode ttl n) bytes)
return_for size n (lookup mode ttl clock epoch key command) r =
    let value = single_value (checked size mode ttl n) r.reply in
    looked_up (record { cause = single_number (checked size mode ttl n) (book.lookup key command clock epoch) r.reply; hit = flag_of value })
    (served_at value r.place) (bytes_of value)
return_for size n (store mode ttl epoch key command value expiry) r =
    stored (single_number (checked size mode ttl n) (book.store key command value expiry epoch) r.reply)
return_for size n (invalidate mode ttl key) r = invalidated (single_number (checked size mode ttl n) (book.invalidate key) r.reply)
return_for size n new_epoch r = epoch_taken (number_in r.reply)
