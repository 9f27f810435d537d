-- A planning on the bytes of a book is the book's call: its whole return, and what is held then. Assumes what Bridge.antt does.
use Rattle.std.specs.Prelude.{Result, Ok, Err, ◌≡◌, ℕ, false, ltb, length}
use Rattle.std.proofs.Math.Path.{refl}
use Rattle.std.proofs.Common.{ap, ◌∙◌}
use mathlib.Core.List.{List, []}
use Rattle.buffer.specs.Cases.{by_test}
use Rattle.buffer.specs.Same.{Bytes}
use Rattle.config.specs.Limits.{max_bytes}
use Rattle.std.specs.Prelude.{Ok}
use Rattle.config.specs.Config.{refused, settings_of}
use Rattle.config.specs.declared.Settings.{Settings}
use Rattle.resp3.specs.Ends.{is_value}
use Rattle.call_record.specs.Record.{Record}
use Rattle.call_record.specs.Check.{check_def}
use Rattle.format.specs.declared.Wrong.{Wrong}
use Rattle.cursor.specs.At.{record_at}
use Rattle.book.specs.Book.{Setup, Book, Answer, Keyed, invalidate, answers, after_all}
use Rattle.book.specs.Calls.{Call, lookups, ons, after_call, reply_to, call-defs}
use Rattle.arena.specs.Tests.{WellFormed}
use Rattle.arena.proofs.Image.{decode-encode, encoded-length}
use Rattle.arena.specs.Layout.{encode}
use Rattle.arena.specs.Held.{Held, lend}
use Rattle.planning.specs.Ask.{ask, any_late}
use Rattle.planning.specs.Outcome.{wanted}
use Rattle.planning.specs.Planning.{short, call_of, plan_answer, plan_on}
use Rattle.siphash.specs.Sip.{sip_hash13}
use Rattle.arena.specs.SetupOf.{setup_for}
use Rattle.cache_manager.specs.Pipeline.{Left, pipelined, judged, admitted_to, plan_call, cause_of}
use Rattle.cache_manager.specs.Call.{judged_call}
use Rattle.cache_manager.specs.Call as plannings
use Rattle.caching.specs.Planned.{plan_return}
use Rattle.call_entry.specs.Entered.{on_rows, entered}
use Rattle.demand.specs.Call as real
use Rattle.demand.specs.Call.{Stepped, planned, step, setup_with, book_call}
use Rattle.demand.specs.Replies.{with_next, Reply, respond, return_for, plan_reply, record_reply, planning_return}
use Rattle.demand.proofs.Free.{renumbered, said-free, keys-free}
use Rattle.demand.proofs.Bridge.{is-fine, is-sized, held-fine}

-- the book's setup that settings give
abbrev setup_now : Settings → Setup
setup_now g = setup_for sip_hash13 g

module _ (g : Settings) (n t e : ℕ) (bytes d f : Bytes) (bk : Book) (long : length (encode (setup_now g) n bk.rows) ≡ n) where
  -- what a planning is given: no next number
  abbrev h : Held
  h = lend (setup_now g) n (renumbered 0 bk)

  -- a step as what planning leaves shows it
  abbrev shown : Left → Stepped
  shown x =
      record {
        return = planned (plan_return x.returned) x.plan x.send;
        held = record { arena = x.held.arena; counts = x.held.counts; next = bk.next };
      }

  -- and as the book's call gives it
  abbrev from : (Reply → real.Return) → Call → Stepped
  from answer c = record { return = answer (reply_to (setup_now g) c bk); held = with_next bk.next (lend (setup_now g) n (after_call (setup_now g) c bk)) }

  -- what the book answers to a record's lookups
  abbrev said : Record → List Answer
  said r = answers (setup_now g) (ons (lookups t e (wanted (ask g t) r.commands))) bk

  -- a record
  recorded-step : shown
      (pipelined t e bytes d f h g bk.rows (record_at bytes) (plan_on (setup_now g) (renumbered 0 bk) g t e (record_at bytes) (length d) (length f)))
      ≡ from (record_reply t bytes d f g (Ok tt)) (call_of g t e (record_at bytes) (length d) (length f))
  unfolding plan_on plan_answer pipelined cause_of call_of record_reply plan_reply call-defs lend after_all
  recorded-step =
      let r : Record = record_at bytes in
      let qs : List Keyed = lookups t e (wanted (ask g t) r.commands) in
      by_test (any_late g t r.commands)
      (λ l. rw l)
      (λ l.
      rw (l, said-free (setup_now g) qs 0 bk)
      (by_test (short (ask g t) g r (length d) (length f) (said r))
      (λ x. rw x)
      (λ x. rw (x, long, l, said-free (setup_now g) qs 0 bk, x, keys-free (setup_now g) qs 0 bk))))

  -- cause 2, then cause 3
  judged-step : (x : Result (Unit {0}) Wrong) → shown (judged t e bytes d f h g bk.rows x)
      ≡ from (record_reply t bytes d f g x) (judged_call g t e bytes (length d) (length f) x)
  unfolding judged judged_call
  judged-step (Ok u) = unfold lend in recorded-step
  judged-step (Err w) = unfold lend cause_of record_reply call-defs after_all in refl

  admitted-step : shown (admitted_to t e bytes d f h g bk.rows)
      ≡ from (planning_return t bytes d f (Ok g)) (plannings.book_call g t e bytes (length d) (length f))
  unfolding admitted_to plannings.book_call planning_return
  admitted-step = by_test (ltb max_bytes (length bytes)) (λ l. rw l (unfold lend cause_of call-defs after_all in refl)) (λ l. rw l (judged-step (check_def bytes)))

module _ (size n m ttl : ℕ) (pass : refused size m n ≡ false) (bk : Book) (w : WellFormed is_value (setup_with size n) bk.rows) (t e : ℕ)
    (bytes d f : Bytes) where
  abbrev g : Settings
  g = settings_of size m ttl n

  -- causes 1 and 9 let it through
  plan-on : plan_call size m ttl t e bytes d f (lend (setup_with size n) n (renumbered 0 bk))
      ≡ admitted_to t e bytes d f (lend (setup_with size n) n (renumbered 0 bk)) g bk.rows
  unfolding plan_call on_rows entered setup_with settings_of lend
  plan-on = rw (held-fine size n m ttl pass (invalidate []) bk 0 w) (rw (decode-encode is_value (setup_with size n) n (is-sized size n m ttl pass) bk.rows w))

  -- a planning as a step
  pub planning-step : step size (real.planning m ttl t e bytes d f) (lend (setup_with size n) n bk)
      ≡ record {
        return = return_for size n (real.planning m ttl t e bytes d f) (respond (setup_with size n) size n (real.planning m ttl t e bytes d f) bk);
        held = with_next bk.next (lend (setup_with size n) n (after_call (setup_with size n) (book_call size n (real.planning m ttl t e bytes d f)) bk));
      }
  unfolding step book_call return_for setup_with settings_of lend
  planning-step =
      rw (is-fine size n m ttl pass)
      (ap (shown g n t e bytes d f bk (encoded-length is_value (setup_with size n) n (is-sized size n m ttl pass) bk.rows w)) plan-on
      ∙ admitted-step g n t e bytes d f bk (encoded-length is_value (setup_with size n) n (is-sized size n m ttl pass) bk.rows w))
