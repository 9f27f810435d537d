-- `write_item` meets its contract: head, key and entry are one write (`item-written`). Assumes nothing.
use native.Mathlib.Omega.{arith}
use mathlib.Core.Path.{◌∙◌}
use Rattle.shard_write.proofs.Writing.{written, item-written}
use Rattle.shard_write.proofs.write_item.Goals as goal

pub returns : goal.returns
returns c =
    let a = c.args in
    written _ _ c.write_entry.ensures
    (written _ _ c.copy_to.ensures
    c.write_head.ensures)
    ∙ item-written a.s.now a.key.now a.command.now a.value.now a.at a.expiry a.epoch (omega arith)
