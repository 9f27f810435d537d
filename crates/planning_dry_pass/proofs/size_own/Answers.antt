-- `planning_dry_pass::size_own` meets its contract. Assumes nothing.
use Rattle.planning_dry_pass.specs.Size as laws
use Rattle.planning_dry_pass.proofs.size_own.Goals as goal

pub returns : goal.returns
returns c = λ m. (laws.size-ignored m _ _ _ c.own_len.ensures.0, laws.size-not-cacheable m _ _ _ c.own_len.ensures.0)
