-- `plan::node_at` meets its contract. Assumes nothing.
use Rattle.plan.specs.Paths.{head-is}
use Rattle.plan.proofs.node_at.Goals as goal

pub returns : goal.returns
returns c =
    head-is _ _ _ _ _ _ _
    c.read_u32.ensures
    c.try_from-kind.ensures
    c.read_u32-2.ensures
    c.read_u32-3.ensures
    c.read_u64-number.ensures
