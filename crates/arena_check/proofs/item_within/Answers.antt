-- `arena_check::item_within` meets its contract. Assumes nothing.
use mathlib.Core.Path.{sym}
use native.Mathlib.Omega.{arith}
use Rattle.arena_check.proofs.Items.{within-short, within-read}
use Rattle.arena_check.proofs.item_within.Goals as goal

pub returns-then-end-at-lt32 : goal.returns-then-end-at-lt32
returns-then-end-at-lt32 c = let a = c.args in sym (within-short a.s.now a.end a.at (omega arith))

pub returns : goal.returns
returns c =
    let a = c.args in
    within-read a.s.now a.end a.at _ _ (omega arith) c.read_u32-k.ensures c.read_u32-e.ensures
