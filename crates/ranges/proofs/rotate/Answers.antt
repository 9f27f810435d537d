-- `ranges::rotate` meets its contract: nothing is to move where no bytes stand before the second range. Assumes nothing.
use Rattle.std.proofs.Common.{sym, arith}
use Rattle.ranges.proofs.Moves.{rotated-first}
use Rattle.ranges.proofs.rotate.Goals as goal

pub returns-then-mid-from : goal.returns-then-mid-from
returns-then-mid-from c = rotated-first _ _ _ _ (sym c.if-mid-from.true) (omega arith) (omega arith)
