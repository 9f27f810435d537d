-- `write_end` meets its contract. Assumes nothing.
use Rattle.plan_write.specs.Wrote.{wrote-is, wrote_none, room-is}
use Rattle.planning_send_len.proofs.Wrapped as wrap
use Rattle.planning_send_len.proofs.write_end.Goals as goal

pub write_exec-requires : goal.write_exec-requires
write_exec-requires c =
    room-is _ _ _ _ (wrap.end-yes c.args.transaction c.if-transaction.true) c.requires

pub returns-then-transaction : goal.returns-then-transaction
returns-then-transaction c =
    wrote-is _ _ _ _ _ _ (wrap.end-yes c.args.transaction c.if-transaction.true)
    c.write_exec.ensures

pub returns-else-transaction : goal.returns-else-transaction
returns-else-transaction c = wrote_none _ _ _ (wrap.end-no c.args.transaction c.if-transaction.false)
