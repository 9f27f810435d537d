-- `write_head` meets its contract: the writes are one (`head-written`). Assumes nothing.
use native.Mathlib.Omega.{arith}
use mathlib.Core.Path.{◌∙◌}
use Rattle.shard_write.proofs.Writing.{written, head-written}
use Rattle.shard_write.proofs.write_head.Goals as goal

pub returns : goal.returns
returns c =
    let a = c.args in
    written _ _ c.write_u32-4.ensures
    (written _ _ c.write_u32-3.ensures
    (written _ _ c.write_u64-2.ensures
    (written _ _ c.write_u64.ensures
    (written _ _ c.write_u32-2.ensures
    c.write_u32.ensures))))
    ∙ head-written a.s.now a.at a.key a.count a.epoch a.expiry a.bytes (omega arith)
