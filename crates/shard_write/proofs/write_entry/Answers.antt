-- `write_entry` meets its contract: the writes are one (`entry-written`). Assumes nothing.
use native.Mathlib.Omega.{arith}
use mathlib.Core.Path.{◌∙◌}
use Rattle.shard_write.proofs.Writing.{written, entry-written}
use Rattle.shard_write.proofs.write_entry.Goals as goal

pub returns : goal.returns
returns c =
    let a = c.args in
    written _ _ c.copy_to-2.ensures
    (written _ _ c.copy_to.ensures
    (written _ _ c.write_u64.ensures
    (written _ _ c.write_u32-2.ensures c.write_u32.ensures)))
    ∙ entry-written a.s.now a.command.now a.value.now a.at (omega arith)
