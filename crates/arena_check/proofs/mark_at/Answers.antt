-- `arena_check::mark_at` meets its contract: what is marked is the thing's key. Assumes nothing.
use native.Mathlib.Omega.{arith}
use Rattle.arena_check.proofs.Marks.{mark-read}
use Rattle.arena_check.proofs.mark_at.Goals as goal

pub returns : goal.returns
returns g c =
    let a = c.args in mark-read a.s.now g.T.Thing.HEAD a.top a.at _ _ _ (omega arith) c.read_u32.ensures
    c.marked_by.ensures
