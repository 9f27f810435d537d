-- `sharded_lru::insert_new` meets its contract. Assumes nothing.
use native.Mathlib.Omega.{arith}
use Rattle.sharded_lru.proofs.Parts.{shards-below, key-ends, key_below, key-shard, key-holds}
use Rattle.sharded_lru.proofs.Backs.{store-back}
use Rattle.sharded_lru.proofs.insert_new.Goals as goal

pub shard_start-a-requires : goal.shard_start-a-requires
shard_start-a-requires c = shards-below _ _ c.requires.0

pub overflow_add-e : goal.overflow_add-e
overflow_add-e c = let l = key_below _ _ c.requires.0 _ _ c.shard_start-a.ensures in omega arith

pub slice_bounds-store_new-end : goal.slice_bounds-store_new-end
slice_bounds-store_new-end c = key-ends _ _ c.requires.0 _ _ c.shard_start-a.ensures

pub store_new-requires : goal.store_new-requires
store_new-requires c = (
  key-shard _ _ c.requires.0 _ _
      c.shard_start-a.ensures,
  c.requires.1,
  c.requires.0.lent.keyed,
)

pub returns : goal.returns
returns c rows w f =
    let e = c.shard_start-a.ensures in
    let o = c.requires in
    store-back _ _ rows w _ _ _ _ _ _ e o.1 o.2
    c.ranges.expiry.fits
    c.ranges.epoch.fits _ _
    (c.store_new.ensures _ (key-holds _ _ rows w _ _ e) f)
