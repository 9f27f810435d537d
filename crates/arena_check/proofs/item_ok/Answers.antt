-- `arena_check::item_ok` meets its contract: one law for each path. Assumes nothing.
use mathlib.Core.Path.{sym, ◌∙◌}
use Prim.Native.Nat.{◌+◌}
use native.Mathlib.Omega.{arith}
use borrow.Author.Tests.{ne_eqb, eq-eqb}
use Rattle.resp3.specs.Ends.{is_value}
use Rattle.arena_check.specs.Home.{home_in}
use Rattle.arena_check.proofs.Laws.{zero-read}
use Rattle.arena_check.proofs.Items.{ends_read, home-read, item-filled, item-long, item-away, item-empty, item-rest}
use Rattle.arena_check.proofs.item_ok.Goals as goal

pub returns-then-read_u32-ne0 : goal.returns-then-read_u32-ne0
returns-then-read_u32-ne0 c =
    let a = c.args in
    sym (item-filled is_value (home_in a.shards) a.s.now a.shard a.end a.at (omega arith) (omega arith)
    (zero-read 4 a.s.now (a.at + 28) _ (omega arith) c.read_u32.ensures ∙ ne_eqb _ 0 c.if-read_u32-ne0.true))

pub returns-then-k-gt-MAX_KEY : goal.returns-then-k-gt-MAX_KEY
returns-then-k-gt-MAX_KEY c =
    let a = c.args in
    sym (item-long is_value (home_in a.shards) a.s.now a.shard a.end a.at (omega arith) (omega arith)
    (zero-read 4 a.s.now (a.at + 28) _ (omega arith) c.read_u32.ensures ∙ eq-eqb _ 0 c.if-read_u32-ne0.false)
    (omega arith))

pub returns-then-home_of-shard : goal.returns-then-home_of-shard
returns-then-home_of-shard c =
    let a = c.args in
    let away = home-read a.shards a.shard _ _ _ _ c.requires.4 c.home_of.ensures
    (ne_eqb _ a.shard c.if-home_of-shard.true) in
    sym (item-away is_value (home_in a.shards) a.s.now a.shard a.end a.at (omega arith) (omega arith)
    (zero-read 4 a.s.now (a.at + 28) _ (omega arith) c.read_u32.ensures ∙ eq-eqb _ 0
    c.if-read_u32-ne0.false) (omega arith) away)

pub returns-then-n-lt1 : goal.returns-then-n-lt1
returns-then-n-lt1 c =
    let a = c.args in
    let home = home-read a.shards a.shard _ _ _ _ c.requires.4
    c.home_of.ensures
    (eq-eqb _ a.shard c.if-home_of-shard.false) in
    sym (item-empty is_value (home_in a.shards) a.s.now a.shard a.end a.at (omega arith) (omega arith)
    (zero-read 4 a.s.now (a.at + 28) _ (omega arith) c.read_u32.ensures ∙ eq-eqb _ 0
    c.if-read_u32-ne0.false) (omega arith) home (omega arith))

pub entries_end-requires : goal.entries_end-requires
entries_end-requires c = let e = c.next_place-next.ensures in omega arith

pub returns : goal.returns
returns c =
    let a = c.args in
    let home = home-read a.shards a.shard _ _ _ _
    c.requires.4
    c.home_of.ensures
    (eq-eqb _ a.shard c.if-home_of-shard.false) in
    c.eq.ensures ∙ ends_read a.s.now a.at _ _ _ _ c.read_u32-k.ensures
    c.read_u32-n.ensures c.next_place-next.ensures c.entries_end.ensures
    ∙ item-rest is_value (home_in a.shards) a.s.now a.shard a.end a.at (omega arith) (omega arith)
    (zero-read 4 a.s.now (a.at + 28) _ (omega arith) c.read_u32.ensures
    ∙ eq-eqb _ 0 c.if-read_u32-ne0.false) (omega arith) home (omega arith)
