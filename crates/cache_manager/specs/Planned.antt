-- What planning writes, in the order in which it is written, and what it comes to in each case. Assumes nothing.
use Rattle.std.specs.Prelude.{◌≡◌, Bool, true, false, ◌||◌, length}
use Rattle.std.proofs.Math.Path.{refl, ap, ap₂}
use Rattle.std.proofs.Common.{◌∙◌}
use mathlib.Core.List.{List, [], ◌∷◌, ◌++◌}
use Prim.Native.Nat.{ℕ, suc}
use Rattle.std.proofs.Math.Dec.{ltb}
use Rattle.buffer.specs.Same.{Bytes}
use Rattle.buffer.specs.Part.{put}
use Rattle.config.specs.Causes.{late_expiry, short_buffer}
use Rattle.config.specs.declared.Settings.{Settings}
use Rattle.call_record.specs.Record.{Command, Record, transaction}
use Rattle.book.specs.Book.{Setup, Book, Row, after_all}
use Rattle.book.specs.Calls.{lookups, ons}
use Rattle.book.specs.Lookups.{dry}
use Rattle.arena.specs.Held.{Held, lend, book_of}
use Rattle.planning.specs.Ask.{ask, any_late}
use Rattle.planning.specs.Outcome.{CachingResult, wanted}
use Rattle.planning.specs.Sent.{responses}
use Rattle.planning.specs.Plan.{plan_of}
use Rattle.planning.specs.Planning.{Planned, done, planned_by, planned_from, short, plan_on}
use Rattle.planning.proofs.Passes as passes
use Rattle.plan_write.specs.Pieces.{plan_head, plan-pieces}
use Rattle.sharded_lru.specs.Lent.{setup_now}
use Rattle.planning_outcome.specs.Sizes.{outcomes_for, all_nodes, all_sent, sent_count, nodes-are, sent-are, count-is, outcomes-on, outcomes-are}
use Rattle.planning_send_len.specs.Wrapped.{start_bytes, end_bytes}
use Rattle.planning_send_len.proofs.Wrapped.{wrapped-bytes}
use Rattle.cache_manager.specs.Pipeline.{refused_as, wrote, refusal, pipelined, recorded}

module _ (p : Setup) (rows : ℕ → Row) (t e : ℕ) (g : Settings) (b : Bool) (cs : List Command) where
  -- the plan: its head, and each command's nodes
  unfoldable pub plan_bytes : Bytes
  plan_bytes = plan_head b (length cs) ++ all_nodes p rows t e (ask g t) cs

  -- what is sent: for each command, wrapped
  unfoldable pub send_bytes : Bytes
  send_bytes = start_bytes b ++ (all_sent p rows t e (ask g t) g.mode cs ++ end_bytes b)

module _ (p : Setup) (rows : ℕ → Row) (t e : ℕ) (g : Settings) where
  -- an outcome for each command
  outcomes-length : (cs : List Command) → length (outcomes_for p rows t e (ask g t) cs) ≡ length cs
  unfolding outcomes_for
  outcomes-length [] = refl
  outcomes-length (c ∷ cs) = ap suc (outcomes-length cs)

  -- that is what planning's definition says
  pub planned-is : (r : Record) → planned_by g r (outcomes_for p rows t e (ask g t) r.commands)
      ≡ record {
        plan = plan_bytes p rows t e g (transaction r) r.commands;
        send = send_bytes p rows t e g (transaction r) r.commands;
        counts = responses (transaction r) (sent_count p rows t e (ask g t) g.mode r.commands);
      }
  unfolding planned_by plan_bytes send_bytes plan_of
  planned-is r =
      let rs : List CachingResult = outcomes_for p rows t e (ask g t) r.commands in
      let x = plan-pieces (plan_of (transaction r) rs)
      ∙ ap₂ (λ (n : ℕ) (z : Bytes). plan_head (transaction r) n ++ z) (outcomes-length r.commands) (nodes-are p rows t e (ask g t) r.commands) in
      let y = wrapped-bytes (transaction r) _ ∙ ap (λ (z : Bytes). start_bytes (transaction r) ++ (z ++ end_bytes (transaction r)))
      (sent-are p rows t e (ask g t) g.mode r.commands) in
      let z = ap (responses (transaction r)) (count-is p rows t e (ask g t) g.mode r.commands) in
      λ i. record { plan = x i; send = y i; counts = z i }

-- ---- what planning comes to

module _ (t e : ℕ) (s d f : Bytes) (h : Held) (g : Settings) (rows : ℕ → Row) (r : Record) where
  abbrev bk : Book
  bk = book_of rows h

  abbrev pub plan_now : Bytes
  plan_now = plan_bytes (setup_now g) rows t e g (transaction r) r.commands

  abbrev pub send_now : Bytes
  send_now = send_bytes (setup_now g) rows t e g (transaction r) r.commands

  -- whether a buffer is short
  pub short-is : short (ask g t) g r (length d) (length f) (dry (setup_now g) bk t e (wanted (ask g t) r.commands))
      ≡ (ltb (length d) (length plan_now) || ltb (length f) (length send_now))
  unfolding short planned_from
  short-is =
      ap (λ (x : Planned). ltb (length d) (length x.plan) || ltb (length f) (length x.send))
      (ap (planned_by g r) (outcomes-are (setup_now g) bk (ask g t) t e r.commands) ∙ planned-is (setup_now g) rows t e g r)

  -- cause 4
  pub late-refused : any_late g t r.commands ≡ true → recorded t e s d f h g rows r ≡ refusal t e s d f h (refused_as late_expiry)
  unfolding pipelined
  late-refused l = ap (pipelined t e s d f h g rows r) (passes.refused-4 (setup_now g) bk g t e r (length d) (length f) l).answers

  module _ (l : any_late g t r.commands ≡ false) where
    -- cause 5
    pub short-refused : (ltb (length d) (length plan_now) || ltb (length f) (length send_now)) ≡ true
        → recorded t e s d f h g rows r ≡ refusal t e s d f h (refused_as short_buffer)
    unfolding pipelined
    short-refused x = ap (pipelined t e s d f h g rows r) (passes.refused-5 (setup_now g) bk g t e r (length d) (length f) l (short-is ∙ x)).answers

    -- all is written, and the lookups are done
    pub all-written : (ltb (length d) (length plan_now) || ltb (length f) (length send_now)) ≡ false
        → recorded t e s d f h g rows r
        ≡ record {
          returned = wrote (length plan_now) (length send_now) (responses (transaction r) (sent_count (setup_now g) rows t e (ask g t) g.mode r.commands));
          plan = put d 0 plan_now;
          send = put f 0 send_now;
          held = lend (setup_now g) (length h.arena) (after_all (setup_now g) (ons (lookups t e (wanted (ask g t) r.commands))) bk);
        }
    unfolding pipelined
    all-written x =
        let w = passes.plans (setup_now g) bk g t e r (length d) (length f) l (short-is ∙ x) in
        let y : plan_on (setup_now g) bk g t e r (length d) (length f)
        ≡ done (record {
          plan = plan_now;
          send = send_now;
          counts = responses (transaction r)
              (sent_count (setup_now g) rows t e (ask g t) g.mode r.commands);
        }) =
        w.answers ∙ ap (λ (z : List CachingResult). done (planned_by g r z)) (outcomes-on (setup_now g) bk (ask g t) t e r.commands)
        ∙ ap done (planned-is (setup_now g) rows t e g r) in
        ap (pipelined t e s d f h g rows r) y
        ∙ ap (λ (z : Book).
        record {
          returned = wrote (length plan_now) (length send_now) (responses (transaction r) (sent_count (setup_now g) rows t e (ask g t) g.mode r.commands));
          plan = put d 0 plan_now;
          send = put f 0 send_now;
          held = lend (setup_now g) (length h.arena) z;
        })
        w.leaves
