-- `ranges::copy_within` meets its contract: a range copied to its own place changes nothing. Assumes nothing.
use Rattle.std.proofs.Common.{arith}
use Rattle.ranges.proofs.Moves.{moved_back}
use Rattle.ranges.proofs.copy_within.Goals as goal

pub returns-then-to-from : goal.returns-then-to-from
returns-then-to-from c = moved_back _ _ _ _ c.if-to-from.true (omega arith)
