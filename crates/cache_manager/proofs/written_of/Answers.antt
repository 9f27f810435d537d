-- `cache_manager::written_of` meets its contract. Assumes nothing.
use Rattle.cache_manager.proofs.written_of.Goals as goal

pub returns-then-transaction : goal.returns-then-transaction
returns-then-transaction c = rw c.if-transaction.true

pub returns-else-transaction : goal.returns-else-transaction
returns-else-transaction c = rw c.if-transaction.false
