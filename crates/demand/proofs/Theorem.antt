-- Demand 3 over the exported functions, proved: the record of Demand.antt put together from its clauses; and cause 9 beside it. Assumes
-- nothing but what the theorems' types say.
use Rattle.std.specs.Prelude.{◌≡◌, ℕ, List, length}
use Rattle.std.proofs.Common.{ap}
use Rattle.buffer.specs.Same.{Bytes}
use Rattle.format.specs.Lists.{All}
use Rattle.resp3.specs.Ends.{is_value}
use Rattle.book.specs.Book.{Counts}
use Rattle.book.specs.Counted.{Counted}
use Rattle.arena.specs.Tests.{WellFormed}
use Rattle.arena.specs.Held.{Held}
use Rattle.call_entry.specs.Entered.{no_cause}
use Rattle.demand.specs.Call.{RealCall, Given, setup_by, step}
use Rattle.demand.specs.Demand.{setup, CallIn, returned, book_before, Demand, DemandThree, CauseNine}
use Rattle.demand.specs.Replies.{return_for}
use Rattle.demand.specs.Corollaries.{response}
use Rattle.demand.proofs.Laws.{in-turn-field, happened-field}
use Rattle.demand.proofs.InTurn.{rows-formed, before-given, held-is, answers-field, rows-field, next_field}
use Rattle.demand.proofs.Refusals.{never-nine-field}
use Rattle.demand.proofs.Gets.{is_served-field, is_missed-field, places-field}
use Rattle.demand.proofs.Reports.{refused-field}
use Rattle.demand.proofs.Stores.{single-stores-field, kept-at-once-field}
use Rattle.demand.proofs.Epochs.{next-taken}
use Rattle.demand.proofs.Swap.{exchanged-field}
use Rattle.demand.proofs.Nine.{nine}

module _ (size mode ttl : ℕ) (s : Bytes) (lent : Counts) (set-up : (setup_by size mode ttl s).cause ≡ no_cause) (counted : Counted lent) (cs : List RealCall)
    (given : All Given cs) where
  -- the rows before a call are well-formed, and its return is the book's reply's
  rows_before : (a : CallIn size mode ttl s lent cs) → WellFormed is_value (setup size mode ttl s lent) (book_before size mode ttl s lent a).rows
  rows_before a = rows-formed size mode ttl s lent set-up counted a.before (before-given size mode ttl s lent set-up counted cs given a)

  is-reply : (a : CallIn size mode ttl s lent cs) → returned size mode ttl s lent a ≡ return_for size (length s) a.call (response size mode ttl s lent a)
  is-reply a = answers-field size mode ttl s lent set-up counted cs given a

  -- the clauses, in the order of the record
  demand : Demand size mode ttl s lent cs
  demand =
      record {
        is_served = λ l. is_served-field size mode ttl s lent set-up l (rows_before l.call) (is-reply l.call);
        is_missed = λ l. is_missed-field size mode ttl s lent set-up l (rows_before l.call) (is-reply l.call);
        places = λ a. places-field size mode ttl s lent a (rows_before a) (is-reply a);
        kept_at_once = kept-at-once-field size mode ttl s lent set-up counted cs given;
        single_stores = single-stores-field size mode ttl s lent set-up counted cs given;
        new_epochs = λ a.
            next-taken size mode ttl s lent set-up cs a
            (next_field size mode ttl s lent set-up counted a.before (before-given size mode ttl s lent set-up counted cs given a));
        reported = λ a. refused-field size mode ttl s lent set-up cs a (is-reply a);
        answers = λ a.
            ap (λ (h : Held). (step size a.call h).return)
            (held-is size mode ttl s lent set-up counted a.before (before-given size mode ttl s lent set-up counted cs given a));
        in_turn = in-turn-field size mode ttl s lent set-up cs;
        never_nine = λ a. never-nine-field size mode ttl s lent a (is-reply a);
        held = held-is size mode ttl s lent set-up counted cs given;
        rows = rows-field size mode ttl s lent set-up counted cs given;
        happened = happened-field size mode ttl s lent set-up cs;
        exchanged = exchanged-field size mode ttl s lent set-up counted cs given;
      }

-- demand 3
pub demand-three : DemandThree
demand-three = demand

-- cause 9
pub cause-nine : CauseNine
cause-nine = nine
