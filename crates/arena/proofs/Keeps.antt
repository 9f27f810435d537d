-- Every sequence of calls from a fresh book leaves well-formed rows, as long as what is stored may be stored: causes 3 and 6 and the types of
-- epochs and expiries see to that. Assumes of the setup what cause 1 leaves (`Proper`).
use Rattle.std.specs.Prelude.{◌≡◌, ◌≤◌, Bool, List, []}
use Rattle.std.proofs.Common.{sym, subst}
use Rattle.buffer.specs.Same.{Bytes}
use Rattle.book.specs.Book.{Setup, Book, Counts, Event, fresh}
use Rattle.book.specs.Calls.{Call, after_calls, run, traced}
use Rattle.book.specs.Sound.{Sound}
use Rattle.book.proofs.Storable.{StorableCalls, storable}
use Rattle.book.proofs.Trace.{Proper, sound, none-beyond, run-traced}
use Rattle.arena.specs.Decode.{may_store}
use Rattle.arena.specs.Tests.{WellFormed}

-- the rows that a sequence of calls leaves
pub formed : (is_value : Bytes → Bool) (p : Setup) → Proper p → (lent : Counts) (cs : List Call) → StorableCalls (may_store is_value) cs
    → WellFormed is_value p (after_calls p cs (fresh lent)).rows
unfolding run
formed is_value p o lent cs g =
    let h : List Event = traced p (fresh lent) [] cs in
    let same : run p (fresh lent) h ≡ after_calls p cs (fresh lent) = sym (run-traced p (fresh lent) [] cs) in
    record {
      fine = λ s.
          record {
            sound = subst (λ (bk : Book). Sound p s (bk.rows s)) same (sound p o.some_key lent h s);
            fits = storable (may_store is_value) p lent cs g s;
          };
      beyond = λ s. subst (λ (bk : Book). p.shards ≤ s → bk.rows s ≡ []) same (none-beyond p o lent h s);
    }
