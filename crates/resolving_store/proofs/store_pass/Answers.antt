-- `resolving_store::store_pass` meets its contract: the table of no words tells of every arena. Assumes nothing.
use Rattle.key_filter.specs.Laws.{filters-none}
use Rattle.resolving_store.proofs.store_pass.Goals as goal

pub store_each-requires : goal.store_each-requires
store_each-requires c = (
  c.requires.0,
  c.requires.1,
  filters-none _ _,
)

pub returns-then-plan-lt4096 : goal.returns-then-plan-lt4096
returns-then-plan-lt4096 c = c.store_each.ensures

pub returns : goal.returns
returns c = c.store_filtered.ensures
