-- `sharded_lru::invalidate` meets its contract. Assumes nothing.
use mathlib.Core.Path.{sym, ap}
use native.Mathlib.Omega.{arith}
use Rattle.book.specs.Book.{plus, invalidate, effect_on, key_of}
use Rattle.arena.specs.SetupOf.{setup_of}
use Rattle.sharded_lru.proofs.Parts.{shards-below, key-ends, key_below, key-shard, key-holds, key_back}
use Rattle.sharded_lru.proofs.invalidate.Goals as goal

pub shard_start-at-requires : goal.shard_start-at-requires
shard_start-at-requires c = shards-below _ _ c.requires

pub overflow_add-end : goal.overflow_add-end
overflow_add-end c = let l = key_below _ _ c.requires _ _ c.shard_start-at.ensures in omega arith

pub slice_bounds-invalidate_in-end : goal.slice_bounds-invalidate_in-end
slice_bounds-invalidate_in-end c = key-ends _ _ c.requires _ _ c.shard_start-at.ensures

pub invalidate_in-requires : goal.invalidate_in-requires
invalidate_in-requires c = key-shard _ _ c.requires _ _ c.shard_start-at.ensures

pub returns : goal.returns
unfolding effect_on setup_of key_of
returns c rows w =
    let a = c.args in
    let e = c.shard_start-at.ensures in
    let l = c.invalidate_in.ensures _ (key-holds _ _ rows w _ _ e) in
    (key_back _ _ rows w (invalidate a.key.now) _ e tt _ l.0, ap (plus 0 0) (sym l.1))
