-- `write_get` meets its contract: one writer after the other. Assumes nothing.
use mathlib.Core.Path.{refl, sym, ap}
use Rattle.cmd.specs.Pack.{head, blob}
use Rattle.plan_write.specs.Wrote.{wrote-is, wrote-both, room-is, room-first, room-second}
use Rattle.planning_ask.specs.Asked.{several_name}
use Rattle.planning_send.specs.Sends as sends
use Rattle.planning_send.proofs.write_get.Goals as goal

pub write_head-next-requires : goal.write_head-next-requires
write_head-next-requires c =
    let a = c.args in
    room-is (head 42 (sends.argument_count a.json a.n)) _ _ _ (ap (head 42) (sym c.argument_count-count.ensures))
    (room-first _ (head 42 (sends.argument_count a.json a.n)) (blob (several_name a.json)) _ _ refl c.requires.1)

pub write_name-requires : goal.write_name-requires
write_name-requires c =
    let a = c.args in
    room-second _ _ _ (head 42 (sends.argument_count a.json a.n)) (blob (several_name a.json)) _ _ refl
    c.requires.1
    (wrote-is _ _ (head 42 (sends.argument_count a.json a.n)) _ _ _
    (ap (head 42) (sym c.argument_count-count.ensures)) c.write_head-next.ensures)

pub returns : goal.returns
returns c =
    let a = c.args in
    wrote-both _ _ _ _ (head 42 (sends.argument_count a.json a.n)) (blob (several_name a.json)) _ _ _ refl
    c.requires.1
    (wrote-is _ _ (head 42 (sends.argument_count a.json a.n)) _ _ _
    (ap (head 42) (sym c.argument_count-count.ensures))
    c.write_head-next.ensures) c.write_name.ensures
