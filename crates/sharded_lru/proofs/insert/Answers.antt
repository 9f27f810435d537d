-- `sharded_lru::insert` meets its contract. Assumes nothing.
use native.Mathlib.Omega.{arith}
use Rattle.sharded_lru.proofs.Parts.{shards-below, key-ends, key_below, key-shard, key-holds}
use Rattle.sharded_lru.proofs.Backs.{store-back}
use Rattle.sharded_lru.proofs.insert.Goals as goal

pub shard_start-from-requires : goal.shard_start-from-requires
shard_start-from-requires c = shards-below _ _ c.requires.0

pub overflow_add-to : goal.overflow_add-to
overflow_add-to c = let l = key_below _ _ c.requires.0 _ _ c.shard_start-from.ensures in omega arith

pub slice_bounds-store_in-end : goal.slice_bounds-store_in-end
slice_bounds-store_in-end c = key-ends _ _ c.requires.0 _ _ c.shard_start-from.ensures

pub store_in-requires : goal.store_in-requires
store_in-requires c = (
  key-shard _ _ c.requires.0 _ _
      c.shard_start-from.ensures,
  c.requires.1,
  c.requires.0.lent.keyed,
)

pub returns : goal.returns
returns c rows w =
    let e = c.shard_start-from.ensures in
    let o = c.requires in
    store-back _ _ rows w _ _ _ _ _ _ e o.1 o.2
    c.ranges.expiry.fits
    c.ranges.epoch.fits _ _
    (c.store_in.ensures _ (key-holds _ _ rows w _ _ e))
