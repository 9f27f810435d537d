-- `write_name` meets its contract. Assumes nothing.
use Rattle.plan_write.specs.Wrote.{wrote-is, room-is}
use Rattle.planning_send.specs.Sends as sends
use Rattle.planning_send.proofs.write_name.Goals as goal

pub write_blob-requires : goal.write_blob-requires
write_blob-requires c =
    room-is _ _ _ _ (sends.name-json c.args.json c.if-json.true) c.requires

pub write_blob-requires-else-json : goal.write_blob-requires-else-json
write_blob-requires-else-json c =
    room-is _ _ _ _ (sends.name-plain c.args.json c.if-json.false) c.requires

pub returns-then-json : goal.returns-then-json
returns-then-json c =
    wrote-is _ _ _ _ _ _
    (sends.name-json c.args.json c.if-json.true)
    c.write_blob.ensures

pub returns-else-json : goal.returns-else-json
returns-else-json c =
    wrote-is _ _ _ _ _ _
    (sends.name-plain c.args.json c.if-json.false)
    c.write_blob-else-json.ensures
