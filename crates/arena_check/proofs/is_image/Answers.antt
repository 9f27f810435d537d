-- `arena_check::is_image` meets its contract. The loop's invariant: the test of the shards that are left is the whole test. Assumes nothing.
use mathlib.Core.Path.{sym, ◌∙◌}
use Prim.Native.Nat.{◌*◌, ◌-◌}
use native.Mathlib.Omega.{arith}
use Rattle.resp3.specs.Ends.{is_value}
use Rattle.arena_check.specs.Home.{home_in}
use Rattle.arena_check.proofs.Shards.{rest_read, last-bad, shards-good, shard-read, lent_length, within_all, image-rest, image-shards, shards-none}
use Rattle.arena_check.proofs.is_image.Goals as goal

pub returns-then-not-all_zero : goal.returns-then-not-all_zero
returns-then-not-all_zero c =
    let a = c.args in
    sym (image-rest a.shards a.keys a.bytes a.arena.now (λ i. (c.type_inv.arena i).fits) (omega arith)
    (omega arith) (omega arith) (rest_read a.arena.now _ _ c.all_zero.ensures ∙ c.if-not-all_zero.true))

pub loop-i-init : goal.loop-i-init
loop-i-init c =
    let a = c.args in
    image-shards a.shards a.keys a.bytes a.arena.now (λ i. (c.type_inv.arena i).fits) (omega arith)
    (omega arith) (omega arith) (rest_read a.arena.now _ _ c.all_zero.ensures ∙ c.if-not-all_zero.false)

pub overflow_mul-from : goal.overflow_mul-from
overflow_mul-from c =
    let a = c.args in
    let l = c.loop-i in
    let t = within_all (l.i - 1) a.shards a.bytes (omega arith) in
    omega arith

pub overflow_add-to : goal.overflow_add-to
overflow_add-to c =
    let a = c.args in
    let l = c.loop-i in
    let t = within_all (l.i - 1) a.shards a.bytes (omega arith) in
    omega arith

pub slice_bounds-shard_ok-count : goal.slice_bounds-shard_ok-count
slice_bounds-shard_ok-count c =
    let a = c.args in
    let l = c.loop-i in
    let t = within_all (l.i - 1) a.shards a.bytes (omega arith) in
    omega arith

pub slice_bounds-shard_ok-start : goal.slice_bounds-shard_ok-start
slice_bounds-shard_ok-start c =
    let a = c.args in
    let l = c.loop-i in
    let t = within_all (l.i - 1) a.shards a.bytes (omega arith) in
    omega arith

pub slice_bounds-shard_ok-end : goal.slice_bounds-shard_ok-end
slice_bounds-shard_ok-end c =
    let a = c.args in
    let l = c.loop-i in
    let t = within_all (l.i - 1) a.shards a.bytes (omega arith) in
    omega arith

pub shard_ok-requires : goal.shard_ok-requires
shard_ok-requires c =
    let a = c.args in
    let l = c.loop-i in
    let t = within_all (l.i - 1) a.shards a.bytes (omega arith) in
    let n = lent_length a.arena.now ((l.i - 1) * a.bytes) a.bytes (omega arith) in
    (omega arith, omega arith, omega arith)

pub returns-then-not-shard_ok : goal.returns-then-not-shard_ok
returns-then-not-shard_ok c =
    let a = c.args in
    let l = c.loop-i in
    sym (l.invariant ∙ last-bad is_value (home_in a.shards) a.keys a.bytes a.arena.now l.i (omega arith)
    (shard-read is_value (home_in a.shards) a.keys a.bytes a.arena.now (l.i - 1) _ c.shard_ok.ensures
    ∙ c.if-not-shard_ok.true))

pub loop-i-preserved : goal.loop-i-preserved
loop-i-preserved c =
    let a = c.args in
    let l = c.loop-i in
    l.invariant ∙ shards-good is_value (home_in a.shards) a.keys a.bytes a.arena.now l.i (omega arith)
    (shard-read is_value (home_in a.shards) a.keys a.bytes a.arena.now (l.i - 1) _ c.shard_ok.ensures
    ∙ c.if-not-shard_ok.false)

pub returns : goal.returns
returns c =
    let a = c.args in
    let l = c.loop-i in
    sym (l.invariant ∙ shards-none (home_in a.shards) a.keys a.bytes l.i a.arena.now (omega arith))
