-- `arena_check::distinct` meets its contract: of one thing there are no two. Assumes nothing.
use native.Mathlib.Omega.{arith}
use Rattle.arena_check.proofs.distinct.Goals as goal

pub returns-then-n-le1 : goal.returns-then-n-le1
returns-then-n-le1 g c = λ j k p q r. absurd (omega arith)
