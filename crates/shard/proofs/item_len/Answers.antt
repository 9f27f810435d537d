-- `item_len` meets its contract: two fields of the item. Assumes nothing.
use native.Mathlib.Omega.{arith}
use Rattle.shard.proofs.Fields.{fields}
use Rattle.shard.proofs.item_len.Goals as goal

pub read_u32-key-requires : goal.read_u32-key-requires
read_u32-key-requires c = let f = fields c.requires.stands in omega arith

pub overflow_add-at : goal.overflow_add-at
overflow_add-at c = let f = fields c.requires.stands in omega arith

pub read_u32-entries-requires : goal.read_u32-entries-requires
read_u32-entries-requires c = let f = fields c.requires.stands in omega arith

pub returns : goal.returns
returns c front back it w = let f = fields w in omega arith
