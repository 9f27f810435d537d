-- `single_calls::too_long` meets its contract. Assumes nothing.
use borrow.Author.Tests.{lt-ltb, le-ltb}
use Rattle.single_calls.proofs.too_long.Goals as goal

pub returns-then-key-gt-MAX_KEY : goal.returns-then-key-gt-MAX_KEY
returns-then-key-gt-MAX_KEY c = rw (lt-ltb _ _ c.if-key-gt-MAX_KEY.true)

pub returns-then-command-gt-MAX_COMMAND_KEY : goal.returns-then-command-gt-MAX_COMMAND_KEY
returns-then-command-gt-MAX_COMMAND_KEY c = rw (le-ltb _ _ c.if-key-gt-MAX_KEY.false, lt-ltb _ _ c.if-command-gt-MAX_COMMAND_KEY.true)

pub returns : goal.returns
returns c = rw (le-ltb _ _ c.if-key-gt-MAX_KEY.false, le-ltb _ _ c.if-command-gt-MAX_COMMAND_KEY.false)
