-- `splice_entry` meets its contract: room is made, and an entry written in it (`entry-spliced`). Assumes nothing.
use mathlib.Core.Path.{◌∙◌}
use Rattle.shard_write.proofs.Writing.{written}
use Rattle.shard_write.proofs.Changes.{entry-spliced}
use Rattle.shard_write.proofs.splice_entry.Goals as goal

pub returns : goal.returns
returns c =
    let a = c.args in
    written _ _ c.write_entry.ensures c.resize.ensures
    ∙ entry-spliced a.s.now a.command.now a.value.now a.from a.to a.end
    c.requires
