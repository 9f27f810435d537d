-- `entry_count` meets its contract: a field of the item. Assumes nothing.
use native.Mathlib.Omega.{arith}
use Rattle.shard.proofs.Fields.{fields}
use Rattle.shard.proofs.entry_count.Goals as goal

pub overflow_add-at : goal.overflow_add-at
overflow_add-at c = let f = fields c.requires.stands in omega arith

pub read_u32-requires : goal.read_u32-requires
read_u32-requires c = let f = fields c.requires.stands in omega arith

pub returns : goal.returns
returns c front back it w = let f = fields w in omega arith
