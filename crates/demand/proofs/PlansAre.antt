-- The clause `plans_are`: what a planning that passes wrote is a plan with its missing keys. Assumes that the rows before it are well-formed, as those of
-- every book that calls leave are, and that the call's return is the book's reply's (`answers`).
use Rattle.std.proofs.Math.Path.{◌≡◌, sym}
use Rattle.std.specs.Prelude.{refl, ℕ, List, length}
use Rattle.std.proofs.Common.{ap, ◌∙◌, subst, arith}
use Rattle.std.proofs.Math.Option.{some}
use Rattle.buffer.specs.Cases.{by_test}
use Rattle.buffer.specs.Same.{Bytes}
use Rattle.config.specs.Config.{refused, settings_of, checked}
use Rattle.config.specs.declared.Settings.{Settings}
use Rattle.std.specs.Prelude.{Ok}
use Rattle.resp3.specs.Ends.{is_value}
use Rattle.call_record.specs.Record as records
use Rattle.cursor.specs.At.{record_at}
use Rattle.book.specs.Book.{Setup, Book, Counts}
use Rattle.arena.specs.Tests.{WellFormed}
use Rattle.planning.specs.Ask.{ask}
use Rattle.planning.specs.Plan.{Plan, plan_of}
use Rattle.planning.proofs.Kept.{outcomes-count}
use Rattle.plan.specs.Decode.{decode_plan}
use Rattle.resolving_walk.specs.Commands.{plan_read}
use Rattle.plan_outcomes.specs.Outcomes.{commands_missing}
use Rattle.call_entry.specs.Entered.{no_cause}
use Rattle.demand.specs.Call.{RealCall, planning, Return, cause_of, setup_with, book_call}
use Rattle.demand.specs.Words.{Got, gots_of}
use Rattle.demand.specs.Demand.{setup, CallIn, returned, number, book_before}
use Rattle.demand.specs.Replies.{respond, return_for}
use Rattle.demand.specs.CorollaryWords.{plan_bytes, mode_in, sought, unfound}
use Rattle.demand.specs.Corollaries.{response, Written}
use Rattle.demand.proofs.Bridge.{is-fine}
use Rattle.demand.proofs.ModeRefused.{number-refused}
use Rattle.demand.proofs.Plannings.{said, Passing, passing, results, read, plan-decoded, gots-places}
use Rattle.demand.proofs.Missed.{outcomes-unfound}

-- a return wrote a plan of the record's commands, with the missing keys that its places show
pub record WrittenBy (g : Settings) (t : ℕ) (bytes : Bytes) (r : Return) : Type 0 where
  pub plan : Plan
  pub decoded : decode_plan (plan_bytes r) ≡ some plan
  pub transaction : plan.transaction ≡ records.transaction (record_at bytes)
  pub commands : plan.commands ≡ length (record_at bytes).commands
  pub missing : commands_missing (plan_read plan).commands ≡ unfound (sought g t (record_at bytes).commands) (gots_of r)

-- a planning that passes writes one
plan-written : (g : Settings) (t e : ℕ) (bytes d f : Bytes) (p : Setup) (bk : Book) → WellFormed is_value p bk.rows → {r : Return}
    → Passing g t e bytes d f p bk r → WrittenBy g t bytes r
unfolding plan_of
plan-written g t e bytes d f p bk w x =
    record {
      plan = plan_of (records.transaction (record_at bytes)) (results g t e bytes d f p bk w x);
      decoded = plan-decoded g t e bytes d f p bk w x;
      transaction = refl;
      commands = outcomes-count (ask g t) (record_at bytes).commands (said g t e bytes d f p bk);
      missing = (read g t e bytes d f p bk w x).keys ∙ sym (outcomes-unfound g t (record_at bytes).commands (said g t e bytes d f p bk))
          ∙ ap (λ (z : List Got). unfound (sought g t (record_at bytes).commands) z) (sym (gots-places g t e bytes d f p bk w x));
    }

-- a planning on a book
module _ (size n m ttl t e : ℕ) (bytes d f : Bytes) (bk : Book) (w : WellFormed is_value (setup_with size n) bk.rows) where
  -- the call, and its return
  abbrev c : RealCall
  c = planning m ttl t e bytes d f

  abbrev r : Return
  r = return_for size n c (respond (setup_with size n) size n c bk)

  -- cause 1 lets it through, since its number is 0
  fine-written : checked size m ttl n ≡ Ok (settings_of size m ttl n) → cause_of r ≡ no_cause → WrittenBy (settings_of size m ttl n) t bytes r
  unfolding return_for book_call
  fine-written q k =
      rw q
      (plan-written (settings_of size m ttl n) t e bytes d f (setup_with size n) bk w
      (passing (settings_of size m ttl n) t e bytes d f (setup_with size n) bk (rw q at k)))

  pub planning-written : cause_of r ≡ no_cause → WrittenBy (settings_of size m ttl n) t bytes r
  unfolding mode_in
  planning-written k =
      by_test (refused size m n)
      (λ b. absurd (let z : ◌≡◌ {A = ℕ} 1 0 = sym (number-refused size n c tt b (respond (setup_with size n) size n c bk)) ∙ k in omega arith))
      (λ b. fine-written (is-fine size n m ttl b) k)

-- the clause
module _ (size mode ttl : ℕ) (s : Bytes) (lent : Counts) {cs : List RealCall} (a : CallIn size mode ttl s lent cs) where
  -- as the record asks for it
  as_written : (m d t : ℕ) (bytes : Bytes) → WrittenBy (settings_of size m d (length s)) t bytes (returned size mode ttl s lent a)
      → Written size mode ttl s lent a m d t bytes
  as_written m d t bytes x = record { plan = x.plan; decoded = x.decoded; transaction = x.transaction; commands = x.commands; missing = x.missing }

  pub plans_are-field : WellFormed is_value (setup size mode ttl s lent) (book_before size mode ttl s lent a).rows
      → returned size mode ttl s lent a ≡ return_for size (length s) a.call (response size mode ttl s lent a)
      → (m d t e : ℕ) (bytes plan send : Bytes) → a.call ≡ planning m d t e bytes plan send → number size mode ttl s lent a ≡ no_cause
      → Written size mode ttl s lent a m d t bytes
  plans_are-field w answers m d t e bytes plan send is passes =
      let bk : Book = book_before size mode ttl s lent a in
      let q : returned size mode ttl s lent a ≡ r size (length s) m d t e bytes plan send bk w =
      answers ∙ ap (λ (x : RealCall). return_for size (length s) x (respond (setup_with size (length s)) size (length s) x bk)) is in
      as_written m d t bytes
      (subst (WrittenBy (settings_of size m d (length s)) t bytes) (sym q)
      (planning-written size (length s) m d t e bytes plan send bk w (ap cause_of (sym q) ∙ passes)))
