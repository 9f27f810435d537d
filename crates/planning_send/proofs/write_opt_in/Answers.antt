-- `write_opt_in` meets its contract. Assumes nothing.
use Rattle.plan_write.specs.Wrote.{wrote-is, wrote_none, room-is}
use Rattle.planning_send.specs.Sends as sends
use Rattle.planning_send.proofs.write_opt_in.Goals as goal

pub write_client_caching-requires : goal.write_client_caching-requires
write_client_caching-requires c =
    room-is _ _ _ _ (sends.caching-opt-in c.args.mode c.in-OptIn.is)
    c.requires

pub returns-in-All : goal.returns-in-All
returns-in-All c = wrote_none _ _ _ (sends.caching-all c.args.mode c.in-All.is)

pub returns-in-OptIn : goal.returns-in-OptIn
returns-in-OptIn c =
    wrote-is _ _ _ _ _ _
    (sends.caching-opt-in c.args.mode c.in-OptIn.is)
    c.write_client_caching.ensures
