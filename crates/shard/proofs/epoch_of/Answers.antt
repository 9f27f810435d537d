-- `epoch_of` meets its contract: a field of the item. Assumes nothing.
use native.Mathlib.Omega.{arith}
use Rattle.shard.proofs.Fields.{fields}
use Rattle.shard.proofs.epoch_of.Goals as goal

pub overflow_add-at : goal.overflow_add-at
overflow_add-at c = let f = fields c.requires.stands in omega arith

pub read_u64-requires : goal.read_u64-requires
read_u64-requires c = let f = fields c.requires.stands in omega arith

pub returns : goal.returns
returns c front back it w = let f = fields w in omega arith
