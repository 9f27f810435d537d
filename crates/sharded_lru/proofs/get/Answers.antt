-- `sharded_lru::get` meets its contract. Assumes nothing.
use native.Mathlib.Omega.{arith}
use Rattle.sharded_lru.proofs.Parts.{shards-below, key-ends, key_below, key-shard, key-holds}
use Rattle.sharded_lru.proofs.Backs.{lookup-back, told_back}
use Rattle.sharded_lru.proofs.get.Goals as goal

pub shard_start-start-requires : goal.shard_start-start-requires
shard_start-start-requires c = shards-below _ _ c.requires.0

pub overflow_add-end : goal.overflow_add-end
overflow_add-end c = let l = key_below _ _ c.requires.0 _ _ c.shard_start-start.ensures in omega arith

pub slice_bounds-lookup_in-end : goal.slice_bounds-lookup_in-end
slice_bounds-lookup_in-end c = key-ends _ _ c.requires.0 _ _ c.shard_start-start.ensures

pub lookup_in-found-requires : goal.lookup_in-found-requires
lookup_in-found-requires c = (
  key-shard _ _ c.requires.0 _ _
      c.shard_start-start.ensures,
  c.requires.1,
)

pub placed-requires : goal.placed-requires
placed-requires c =
    let w = c.requires.0 in
    let e = c.shard_start-start.ensures in (
      key_below _ _ w _ _ e,
      told_back _ _ _ w.lent _ _ _ _ _ e _ c.lookup_in-found.result
          (c.lookup_in-found.ensures _ (key-holds _ _ _ w.lent _ _ e)),
    )

pub returns : goal.returns
returns c rows w =
    let e = c.shard_start-start.ensures in
    rw c.placed.ensures
    (lookup-back _ _ rows w _ _ _ _ _ e _ c.lookup_in-found.result
    (c.lookup_in-found.ensures _ (key-holds _ _ rows w _ _ e)))
