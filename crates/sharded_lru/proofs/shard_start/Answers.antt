-- `sharded_lru::shard_start` meets its contract. Assumes nothing.
use mathlib.Core.Path.{ap}
use Prim.Native.Nat.{ℕ, ◌*◌}
use native.Mathlib.Omega.{arith}
use Rattle.sharded_lru.proofs.Parts.{start-below}
use Rattle.sharded_lru.proofs.shard_start.Goals as goal

pub overflow_mul-result : goal.overflow_mul-result
overflow_mul-result c =
    let a = c.args in
    let e = ap (λ (n : ℕ). n * a.g.bytes) c.shard_of.ensures in
    let l = start-below a.key.now a.g.shards a.g.bytes (omega arith) (omega arith) in
    omega arith

pub returns : goal.returns
returns c = ap (λ (n : ℕ). n * c.args.g.bytes) c.shard_of.ensures
