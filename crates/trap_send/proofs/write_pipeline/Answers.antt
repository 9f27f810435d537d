-- `trap_send::write_pipeline` meets its contract. Assumes nothing.
use Rattle.cursor.specs.At.{commands_at}
use Rattle.trap_send.specs.Walk as laws
use Rattle.trap_send.proofs.write_pipeline.Goals as goal

pub write_start-from-requires : goal.write_start-from-requires
write_start-from-requires c =
    let w = c.requires in
    let a = c.args in
    laws.start-room a.g a.arena.now a.when.clock a.when.epoch a.transaction (commands_at a.bytes.now a.k.left a.k.at)
    a.out.now w.3
    w.2

pub write_commands-to-requires : goal.write_commands-to-requires
write_commands-to-requires c =
    let w = c.requires in
    let a = c.args in (
      w.0,
      w.1,
      w.2,
      laws.commands-room a.g a.arena.now a.when.clock a.when.epoch a.transaction (commands_at a.bytes.now a.k.left a.k.at)
          a.out.now w.3 _ _ c.write_start-from.ensures,
      w.4,
    )

pub write_end-requires : goal.write_end-requires
write_end-requires c =
    let w = c.requires in
    let a = c.args in
    laws.end-room a.g a.arena.now a.when.clock a.when.epoch a.transaction (commands_at a.bytes.now a.k.left a.k.at)
    a.out.now w.3 _ _
    c.write_start-from.ensures _ _ c.write_commands-to.ensures w.2

pub returns : goal.returns
returns c =
    let w = c.requires in
    let a = c.args in
    laws.all-wrote a.g a.arena.now a.when.clock a.when.epoch a.transaction (commands_at a.bytes.now a.k.left a.k.at)
    a.out.now w.3 _ _
    c.write_start-from.ensures _ _
    c.write_commands-to.ensures _ _ c.write_end.ensures
