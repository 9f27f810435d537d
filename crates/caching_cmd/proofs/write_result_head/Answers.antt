-- `caching_cmd::write_result_head` meets its contract. Assumes nothing.
use Rattle.caching_cmd.specs.Heads as heads
use Rattle.caching_cmd.proofs.write_result_head.Goals as goal

pub write_head-at-requires : goal.write_head-at-requires
write_head-at-requires c = heads.room-one _ _ _ c.if-transaction.true c.requires

pub write_head-requires : goal.write_head-requires
write_head-requires c =
    heads.room-two _ _ _ _ _ c.if-transaction.true c.requires
    c.answer-1.given c.write_head-at.ensures.0

pub returns-then-transaction : goal.returns-then-transaction
returns-then-transaction c =
    heads.head-wrapped _ _ _ _ _ _ _ c.if-transaction.true
    c.requires
    c.write_head-at.ensures.0 c.write_head-at.ensures.1
    c.write_head.ensures.0 c.write_head.ensures.1

pub write_head-requires-2 : goal.write_head-requires-2
write_head-requires-2 c = heads.room-plain _ _ _ c.if-transaction.false c.requires

pub returns : goal.returns
returns c =
    heads.head_plain _ _ _ _ _ c.if-transaction.false c.write_head-2.ensures.0
    c.write_head-2.ensures.1
