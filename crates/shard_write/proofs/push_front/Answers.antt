-- `push_front` meets its contract: an item is set before the others, and the shard's header written (`pushed_front`). Assumes nothing.
use mathlib.Core.Path.{◌∙◌}
use Rattle.shard_write.proofs.Writing.{written}
use Rattle.shard_write.proofs.Changes.{pushed_front}
use Rattle.shard_write.proofs.push_front.Goals as goal

pub returns : goal.returns
returns c row w =
    let a = c.args in
    written _ _ c.write_u32-2.ensures
    (written _ _ c.write_u32.ensures
    c.splice_item.ensures)
    ∙ pushed_front a.s.now a.key.now a.command.now a.value.now a.expiry a.epoch a.end a.count a.used row
    c.requires w
