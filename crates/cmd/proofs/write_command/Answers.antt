-- `cmd::write_command` meets its contract. Assumes nothing.
use Rattle.cmd.specs.Pack.{head}
use Rattle.cmd.specs.Laws as laws
use Rattle.cmd.proofs.write_command.Goals as goal

pub write_head-e-requires : goal.write_head-e-requires
write_head-e-requires c =
    let a = c.args in
    laws.first-room a.dst.now (head 42 a.k.left) (laws.blobs_at a.s.now a.cursor a.k.left a.k.at) _ a.to
    (laws.command-pieces a.s.now a.cursor a.k.left a.k.at) c.requires.1

pub write_arguments-requires : goal.write_arguments-requires
write_arguments-requires c =
    let a = c.args in (
      c.requires.0,
      (laws.two-room a.dst.now _ (head 42 a.k.left) (laws.blobs_at a.s.now a.cursor a.k.left a.k.at) _ a.to _
          (laws.command-pieces a.s.now a.cursor a.k.left a.k.at) c.requires.1 c.write_head-e.ensures.0 c.write_head-e.ensures.1).1,
    )

pub returns : goal.returns
returns c =
    let a = c.args in
    laws.two-wrote a.dst.now _ _ (head 42 a.k.left) (laws.blobs_at a.s.now a.cursor a.k.left a.k.at) _ a.to _ _
    (laws.command-pieces a.s.now a.cursor a.k.left a.k.at) c.requires.1 c.write_head-e.ensures.0 c.write_head-e.ensures.1
    c.write_arguments.ensures.0 c.write_arguments.ensures.1
