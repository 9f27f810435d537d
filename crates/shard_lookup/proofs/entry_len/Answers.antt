-- `entry_len` meets its contract: two fields of the entry. Assumes nothing.
use native.Mathlib.Omega.{arith}
use Rattle.shard_lookup.proofs.Entries.{entry-fields}
use Rattle.shard_lookup.proofs.entry_len.Goals as goal

pub read_u32-command-requires : goal.read_u32-command-requires
read_u32-command-requires c = let f = entry-fields c.requires.stands in omega arith

pub overflow_add-at : goal.overflow_add-at
overflow_add-at c = let f = entry-fields c.requires.stands in omega arith

pub read_u32-value-requires : goal.read_u32-value-requires
read_u32-value-requires c = let f = entry-fields c.requires.stands in omega arith

pub returns : goal.returns
returns c en w = let f = entry-fields w in omega arith
