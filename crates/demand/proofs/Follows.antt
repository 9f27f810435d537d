-- The corollaries of demand 3 (Corollaries.antt), proved from it: what is held, what each call returns and what the arena reads as are taken from its clauses
-- `held`, `answers`, `is_served`, `rows` and `exchanged`, and the rest is laws on definitions. Assumes nothing but demand 3 and what the theorem's type says.
use Rattle.std.specs.Prelude.{◌≡◌, refl, ℕ, List, length}
use Rattle.std.proofs.Math.Path.{ap}
use Rattle.std.proofs.Common.{◌∙◌}
use Rattle.buffer.specs.Same.{Bytes}
use Rattle.format.specs.Lists.{All}
use Rattle.resp3.specs.Ends.{is_value}
use Rattle.book.specs.Book.{Counts, fresh}
use Rattle.book.specs.Counted.{Counted}
use Rattle.arena.specs.Tests.{WellFormed}
use Rattle.arena.proofs.Image.{decode-exact}
use Rattle.arena.specs.Held.{Held, lend}
use Rattle.call_entry.specs.Entered.{no_cause}
use Rattle.demand.specs.Call.{RealCall, Given, Stepped, setup_by}
use Rattle.demand.specs.Demand.{held_by, setup, book_by, CallIn, returned, Demand, DemandThree}
use Rattle.demand.specs.Replies.{return_for}
use Rattle.demand.specs.Corollaries.{response, Corollaries, Follow}
use Rattle.demand.proofs.Theorem.{demand-three}
use Rattle.demand.proofs.Stays.{served-same}
use Rattle.demand.proofs.Laws.{ends-field}
use Rattle.demand.proofs.InTurn.{AllHeld, before-given, next-step}
use Rattle.demand.proofs.Refusals.{only-mode-field}
use Rattle.demand.proofs.LeavesAll.{leaves-all-field}
use Rattle.demand.proofs.PlansAre.{plans_are-field}
use Rattle.demand.proofs.Stops.{seven-field}
use Rattle.demand.proofs.Reports.{reported-field}
use Rattle.demand.proofs.Epochs.{new-epochs-field}
use Rattle.demand.proofs.Tally.{hits-field, misses-field}
use Rattle.demand.proofs.Dropped.{invalidates-field}
use Rattle.demand.proofs.Touched.{events-apart}
use Rattle.demand.proofs.Swap.{told-moves}

module _ (three : DemandThree) (size mode ttl : ℕ) (s : Bytes) (lent : Counts) (set-up : (setup_by size mode ttl s).cause ≡ no_cause)
    (counted : Counted lent) where
  -- demand 3 of a sequence, and its clauses `held` and `rows`: the rows are well-formed, since the arena reads as them
  of : (cs : List RealCall) → All Given cs → Demand size mode ttl s lent cs
  of cs given = three size mode ttl s lent set-up counted cs given

  held : AllHeld size mode ttl s lent
  held cs given = (of cs given).held

  formed : (cs : List RealCall) → All Given cs → WellFormed is_value (setup size mode ttl s lent) (book_by size mode ttl s lent cs).rows
  formed cs given =
      (decode-exact is_value (setup size mode ttl s lent) (held_by size mode ttl s lent cs).arena (book_by size mode ttl s lent cs).rows
      (of cs given).rows).formed

  module _ (cs : List RealCall) (given : All Given cs) where
    -- the calls before one are given calls
    front : (a : CallIn size mode ttl s lent cs) → All Given a.before
    front a = before-given size mode ttl s lent set-up counted cs given a

    -- a call's return is the book's reply's: the clause `answers`, and the law of one call
    is-reply : (a : CallIn size mode ttl s lent cs) → returned size mode ttl s lent a ≡ return_for size (length s) a.call (response size mode ttl s lent a)
    is-reply a = (of cs given).answers a ∙ ap (λ (z : Stepped). z.return) (next-step size mode ttl s lent set-up counted a.before (front a) a.call)

    -- in the order of the record
    follow : Corollaries size mode ttl s lent cs
    follow =
        record {
          is_served = λ l v.
              let alike = served-same (setup size mode ttl s lent) (fresh lent) l.key _ l.command l.clock l.epoch v in
              (λ q. alike.0 (((of cs given).is_served l v).0 q), λ b. ((of cs given).is_served l v).1 (alike.1 b));
          residence_ends = ends-field size mode ttl s lent set-up;
          new_epochs = new-epochs-field size mode ttl s lent set-up cs;
          reported = λ a. reported-field size mode ttl s lent set-up cs a (is-reply a);
          answers = is-reply;
          only_mode = λ a. only-mode-field size mode ttl s lent a (is-reply a) set-up counted;
          leaves_all = λ a. leaves-all-field size mode ttl s lent set-up counted cs given held a (is-reply a);
          seven = λ a. seven-field size mode ttl s lent cs a (is-reply a);
          plans_are = λ a. plans_are-field size mode ttl s lent a (formed a.before (front a)) (is-reply a);
          image = ap (λ (h : Held). h.arena) (held cs given) ∙ (unfold lend in refl);
          counts = ap (λ (h : Held). h.counts) (held cs given) ∙ (unfold lend in refl);
          next = ap (λ (h : Held). h.next) (held cs given) ∙ (unfold lend in refl);
          sound = λ i. ((formed cs given).fine i).sound;
          hits = hits-field size mode ttl s lent set-up counted held cs given;
          misses = misses-field size mode ttl s lent set-up counted held cs given;
          invalidates = invalidates-field size mode ttl s lent set-up counted held cs given;
          exchanged = λ before later x y e m m' d.
              (of cs given).exchanged before later x y e m m'
              (events-apart (setup size mode ttl s lent) (told-moves size (length s) m) (told-moves size (length s) m') d);
        }

-- the corollaries, from demand 3
pub corollaries : Follow
corollaries = follow

-- and so they hold
pub corollaries-hold : (size mode ttl : ℕ) (s : Bytes) (lent : Counts) → (setup_by size mode ttl s).cause ≡ no_cause → Counted lent → (cs : List RealCall)
    → All Given cs → Corollaries size mode ttl s lent cs
corollaries-hold = corollaries demand-three
