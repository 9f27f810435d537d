-- `arena_check::shard_ok` meets its contract: one law for each path. Assumes nothing.
use mathlib.Core.Path.{sym, ap, ◌∙◌}
use Prim.Native.Nat.{ℕ, ◌+◌}
use native.Mathlib.Omega.{arith}
use borrow.Author.Tests.{ne_eqb, eq-eqb}
use Rattle.resp3.specs.Ends.{is_value}
use Rattle.arena_check.specs.Home.{home_in}
use Rattle.arena_check.proofs.Laws.{zero-read}
use Rattle.arena_check.proofs.Shards.{rest_read, shard-many, shard-long, shard-filled, shard-rest, shard-items}
use Rattle.arena_check.proofs.shard_ok.Goals as goal

pub returns-then-n-keys : goal.returns-then-n-keys
returns-then-n-keys c =
    let a = c.args in
    sym (shard-many is_value (home_in a.shards) a.keys a.s.now a.shard (omega arith))

pub returns-then-end-s : goal.returns-then-end-s
returns-then-end-s c =
    let a = c.args in
    sym (shard-long is_value (home_in a.shards) a.keys a.s.now a.shard (omega arith) (omega arith))

pub returns-then-read_u64-ne0 : goal.returns-then-read_u64-ne0
returns-then-read_u64-ne0 c =
    let a = c.args in
    sym (shard-filled is_value (home_in a.shards) a.keys a.s.now a.shard (omega arith) (omega arith)
    (zero-read 8 a.s.now 8 _ (omega arith) c.read_u64.ensures ∙ ne_eqb _ 0 c.if-read_u64-ne0.true))

pub returns-then-not-all_zero : goal.returns-then-not-all_zero
returns-then-not-all_zero c =
    let a = c.args in
    sym (shard-rest is_value (home_in a.shards) a.keys a.s.now a.shard (omega arith) (omega arith)
    (zero-read 8 a.s.now 8 _ (omega arith) c.read_u64.ensures ∙ eq-eqb _ 0 c.if-read_u64-ne0.false) _
    (ap (λ (i : ℕ). 16 + i) c.read_u32.ensures)
    (rest_read a.s.now _ _ c.all_zero.ensures ∙ c.if-not-all_zero.true))

pub returns : goal.returns
returns c =
    let a = c.args in
    c.eq.ensures ∙ shard-items is_value (home_in a.shards) a.keys a.s.now a.shard (omega arith) (omega arith)
    (zero-read 8 a.s.now 8 _ (omega arith) c.read_u64.ensures ∙ eq-eqb _ 0
    c.if-read_u64-ne0.false) _ (ap (λ (i : ℕ). 16 + i) c.read_u32.ensures) _ _
    (rest_read a.s.now _ _ c.all_zero.ensures ∙ c.if-not-all_zero.false)
    c.read_u32-n.ensures c.items_end.ensures
