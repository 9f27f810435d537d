-- `write_path` meets its contract. Assumes nothing.
use mathlib.Core.Path.{sym, ap, ◌∙◌}
use Rattle.cmd.specs.Pack.{blob}
use Rattle.plan_write.specs.Wrote.{wrote-is, wrote_none, room-is}
use Rattle.planning_send.specs.Sends as sends
use Rattle.planning_send.proofs.write_path.Goals as goal

pub write_blob-requires : goal.write_blob-requires
write_blob-requires c =
    room-is _ _ _ _ (sends.path-json c.args.bytes.now
    c.args.v c.requires.0
    c.if-v.true c.requires.1 ∙ ap blob (sym c.bytes_in.ensures))
    c.requires.2

pub returns-then-v : goal.returns-then-v
returns-then-v c =
    wrote-is _ _ _ _ _ _
    (sends.path-json c.args.bytes.now
    c.args.v
    c.requires.0 c.if-v.true
    c.requires.1 ∙ ap blob (sym c.bytes_in.ensures))
    c.write_blob.ensures

pub returns-else-v : goal.returns-else-v
returns-else-v c =
    wrote_none _ _ _ (sends.path-none c.args.bytes.now c.args.v
    c.requires.0 c.if-v.false)
