-- `wrap_len` meets its contract. Assumes nothing.
use Rattle.planning_send_len.proofs.Wrapped as wrap
use Rattle.planning_send_len.proofs.wrap_len.Goals as goal

pub returns-then-transaction : goal.returns-then-transaction
returns-then-transaction c = wrap.wrap-yes c.args.transaction c.if-transaction.true

pub returns-else-transaction : goal.returns-else-transaction
returns-else-transaction c = wrap.wrap-no c.args.transaction c.if-transaction.false
