-- `plan_check::key_ok` meets its contract. Assumes nothing.
use borrow.Author.Tests.{le-leb, lt-leb}
use Rattle.plan_check.proofs.key_ok.Goals as goal

pub returns-then-first-gt-MAX_KEY : goal.returns-then-first-gt-MAX_KEY
returns-then-first-gt-MAX_KEY c = rw (lt-leb _ _ c.if-first-gt-MAX_KEY.true)

pub returns : goal.returns
returns c = rw (le-leb _ _ c.if-first-gt-MAX_KEY.false)
