-- `planning_dry_pass::size_of` meets its contract: the table of no words tells of every arena. Assumes nothing.
use Rattle.key_filter.specs.Laws.{filters-none}
use Rattle.planning_dry_pass.proofs.size_of.Goals as goal

pub size_by-requires : goal.size_by-requires
size_by-requires c = let p = c.requires in (p.0, p.1, record { arena = p.2; filters = filters-none _ _ })

pub returns : goal.returns
returns c = c.size_by.ensures
