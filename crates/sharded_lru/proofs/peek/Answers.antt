-- `sharded_lru::peek` meets its contract. Assumes nothing.
use native.Mathlib.Omega.{arith}
use Rattle.command_key.specs.Key.{key_bytes}
use Rattle.sharded_lru.proofs.Parts.{shards-below, key-ends, key_below, key-shard, key-holds}
use Rattle.sharded_lru.proofs.Backs.{peek-told, told_here}
use Rattle.sharded_lru.proofs.peek.Goals as goal

pub shard_start-start-requires : goal.shard_start-start-requires
shard_start-start-requires c = shards-below _ _ c.requires.0

pub overflow_add-end : goal.overflow_add-end
overflow_add-end c = let l = key_below _ _ c.requires.0 _ _ c.shard_start-start.ensures in omega arith

pub slice_bounds-peek_in-end : goal.slice_bounds-peek_in-end
slice_bounds-peek_in-end c = key-ends _ _ c.requires.0 _ _ c.shard_start-start.ensures

pub peek_in-found-requires : goal.peek_in-found-requires
peek_in-found-requires c = (
  key-shard _ _ c.requires.0 _ _
      c.shard_start-start.ensures,
  c.requires.1,
)

pub placed-requires : goal.placed-requires
placed-requires c =
    let w = c.requires.0 in
    let e = c.shard_start-start.ensures in
    let a = c.args in (
      key_below _ _ w _ _ e,
      told_here _ _ _ w.lent _ (key_bytes a.source.now a.command) a.when.clock a.when.epoch _ e c.peek_in-found.result
          (c.peek_in-found.ensures _ (key-holds _ _ _ w.lent _ _ e)),
    )

pub returns : goal.returns
returns c rows w =
    let e = c.shard_start-start.ensures in
    let a = c.args in
    rw c.placed.ensures
    (peek-told _ _ rows w _ (key_bytes a.source.now a.command) a.when.clock a.when.epoch _ e c.peek_in-found.result
    (c.peek_in-found.ensures _ (key-holds _ _ rows w _ _ e)))
