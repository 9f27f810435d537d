-- `call_record::byte_at` meets its contract. Assumes nothing.
use borrow.Author.Tests.{lt-ltb, le-ltb}
use Rattle.call_record.specs.Paths.{byte_at}
use Rattle.call_record.proofs.byte_at.Goals as goal

pub returns-then-at-s : goal.returns-then-at-s
unfolding byte_at
returns-then-at-s c = rw (lt-ltb _ _ c.if-at-s.true)

pub returns-else-at-s : goal.returns-else-at-s
unfolding byte_at
returns-else-at-s c = rw (le-ltb _ _ c.if-at-s.false)
