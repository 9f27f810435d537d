-- `push::invalidate_keys` meets its contract. The loop's invariant: what is left to do from the cursor on leads to the book after the whole push. Assumes
-- nothing.
use mathlib.Core.Path.{◌≡◌}
use lib.ListN.{length}
use Rattle.resp3.specs.Value.{Values}
use Rattle.resp3_element.specs.Meaning.{Stands}
use Rattle.book.specs.Book.{Book}
use Rattle.book.specs.Calls.{push, after_call}
use Rattle.resolving.specs.Pushes.{keys_of}
use Rattle.sharded_lru.specs.Lent.{setup_now}
use Rattle.push.specs.Kept.{Kept}
use Rattle.push.specs.Laws.{Going}
use Rattle.push.proofs.invalidate_keys.Given as goal

abbrev pub invariant-loop-c : goal.invariant-loop-c
invariant-loop-c l =
    (length l.arena ≡ length l.initial.arena)
    × ((vs : Values) (bk : Book) → Stands l.array l.initial.c vs → Kept l.g l.initial.arena l.initial.sum bk → Going l.g l.array l.arena l.c l.sum (after_call (setup_now l.g) (push (keys_of vs)) bk))

abbrev pub decreases-loop-c : goal.decreases-loop-c
decreases-loop-c l = l.c.left
