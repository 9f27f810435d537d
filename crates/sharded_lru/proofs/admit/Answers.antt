-- `sharded_lru::admit` meets its contract: what cause 1 lets through the image check may be asked of. Assumes nothing.
use Rattle.std.proofs.Common.{sym}
use Rattle.sharded_lru.proofs.Admits.{bounds}
use Rattle.sharded_lru.proofs.admit.Goals as goal

pub is_image-requires : goal.is_image-requires
is_image-requires c = bounds _ _ _ c.args.arena.now _ (sym c.in_ok-g.ensures)
