-- `cursor::head_at` meets its contract. Assumes nothing.
use Prim.Native.Nat.{◌+◌}
use lib.ListN.{get_or}
use Rattle.cursor.proofs.head_at.Goals as goal

pub returns : goal.returns
returns c =
    λ i.
    record {
      flags = get_or c.args.s.now c.args.at 0;
      ttl = c.read_u64-ttl.ensures i;
      cursor = c.read_u64-cursor.ensures i;
      args = record { at = c.args.at + 19; left = c.read_u16-count.ensures i };
    }
