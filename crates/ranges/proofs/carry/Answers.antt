-- `ranges::carry` meets its contract: one law over what its three calls leave. Assumes nothing.
use Rattle.std.proofs.Common.{◌≡◌, ◌+◌, ◌-◌, ◌∙◌, arith}
use Rattle.buffer.specs.Part.{part}
use Rattle.ranges.proofs.Moves.{carry-law, pasted}
use Rattle.ranges.proofs.carry.Goals as goal

pub returns : goal.returns
unfolding part
returns c =
    let a = c.args in
    let m : a.from + (a.mid - a.from) ≡ a.mid = omega arith in
    let k = pasted a.s.now a.from (a.from + (a.end - a.mid)) (a.mid - a.from) (omega arith) in
    carry-law a.s.now _ _ _ _ a.from a.mid a.end (a.end - a.mid - 0) (omega arith) (omega arith) (omega arith) (omega arith)
    c.copy_to.ensures (c.copy_within.ensures.after ∙ (rw m at k)) c.copy_to-2.ensures
