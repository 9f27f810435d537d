-- `splice_item` meets its contract: room is made, and an item written in it (`item-spliced`). Assumes nothing.
use mathlib.Core.Path.{◌∙◌}
use Rattle.shard_write.proofs.Writing.{written}
use Rattle.shard_write.proofs.Changes.{item-spliced}
use Rattle.shard_write.proofs.splice_item.Goals as goal

pub returns : goal.returns
returns c =
    let a = c.args in
    written _ _ c.write_item.ensures c.resize.ensures
    ∙ item-spliced a.s.now a.key.now a.command.now a.value.now a.expiry a.epoch a.from a.to a.end
    c.requires
