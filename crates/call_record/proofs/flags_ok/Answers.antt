-- `call_record::flags_ok` meets its contract. Assumes nothing.
use borrow.Author.Tests.{le-leb, lt-leb, eq-eqb, ne_eqb}
use Rattle.call_record.proofs.flags_ok.Goals as goal

pub returns-then-f-gt15 : goal.returns-then-f-gt15
returns-then-f-gt15 c = rw (lt-leb _ 15 c.if-f-gt15.true)

pub returns-then-f-eq1 : goal.returns-then-f-eq1
returns-then-f-eq1 c = rw (le-leb _ 15 c.if-f-gt15.false, eq-eqb _ 1 c.if-f-eq1.true)

pub returns : goal.returns
returns c = rw (le-leb _ 15 c.if-f-gt15.false, ne_eqb _ 1 c.if-f-eq1.false)
