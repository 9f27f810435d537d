-- `plan_check::walk_start` meets its contract. Assumes nothing.
use Rattle.plan_check.proofs.walk_start.Goals as goal

pub returns : goal.returns
returns c = rw c.read_u32.ensures
