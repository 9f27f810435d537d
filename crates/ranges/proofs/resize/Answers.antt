-- `ranges::resize` meets its contract: the tail is moved, and then what is freed is zeroed (`resize-law`). Assumes nothing.
use native.Mathlib.Omega.{arith}
use Rattle.ranges.proofs.Moves.{resize-law}
use Rattle.ranges.proofs.resize.Goals as goal

pub returns : goal.returns
returns c =
    let a = c.args in
    cc (resize-law a.s.now a.from a.to a.end a.n (omega arith) (omega arith) (omega arith) (omega arith))
