-- `write_single` meets its contract: one of the two after the other. The rooms follow in either order, the bytes in one alone. Assumes nothing.
use mathlib.Core.Path.{refl}
use Rattle.plan_write.specs.Wrote.{wrote-both}
use Rattle.planning_send.specs.Sends as sends
use Rattle.planning_send.proofs.write_single.Goals as goal

pub write_half-next-requires : goal.write_half-next-requires
write_half-next-requires c =
    let a = c.args in
    let p = c.requires in
    (p.0, p.1, sends.half_room a.bytes.now a.head a.key _ _ _ p.2)

pub write_half-requires : goal.write_half-requires
unfolding sends.other
write_half-requires c =
    let a = c.args in
    let p = c.requires in
    (p.0, p.1, sends.other-room a.bytes.now a.head a.key _ _ _ _ _ _ refl p.2 c.write_half-next.ensures)

pub returns : goal.returns
returns c =
    let a = c.args in
    wrote-both _ _ _ _ _ _ _ _ _ (sends.both_halves a.bytes.now a.head a.key)
    c.requires.2
    c.write_half-next.ensures c.write_half.ensures
