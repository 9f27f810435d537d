-- `resolving_store::store_filtered` meets its contract: the filter was made for the arena. Assumes nothing.
use Rattle.resolving_store.proofs.store_filtered.Goals as goal

pub store_each-requires : goal.store_each-requires
store_each-requires c = (
  c.requires.0,
  c.requires.1,
  c.fill.ensures,
)

pub returns : goal.returns
returns c = c.store_each.ensures
