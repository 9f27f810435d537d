-- `set_entry` meets its contract: an entry is set, and the fields written (`entry_set`). Assumes nothing.
use mathlib.Core.Path.{◌∙◌}
use Rattle.shard_write.proofs.Writing.{written}
use Rattle.shard_write.proofs.Changes.{entry_set}
use Rattle.shard_write.proofs.set_entry.Goals as goal

pub returns : goal.returns
returns c front back k e x ef em eb w u =
    let a = c.args in
    written _ _ c.write_u32-3.ensures
    (written _ _ c.write_u32-2.ensures
    (written _ _ c.write_u64.ensures
    (written _ _ c.write_u32.ensures c.splice_entry.ensures)))
    ∙ entry_set a.s.now a.command.now a.value.now a.at a.from a.to a.end a.fields front back k e x ef em eb
    c.requires.0 w u
