-- `planning_dry_pass::size_one` meets its contract. Assumes nothing.
use native.Mathlib.Omega.{arith}
use Rattle.command_key.specs.Key.{KeyIn}
use Rattle.cursor.specs.At.{range_bytes, command_of}
use Rattle.planning.specs.Outcome.{whole_key}
use Rattle.plan_write.specs.Pieces.{range-short}
use Rattle.sharded_lru.specs.Lent.{setup_now}
use Rattle.planning_outcome.specs.Result.{place_on}
use Rattle.planning_outcome.specs.Places.{told-hit, told-miss}
use Rattle.planning_dry_pass.specs.Size as laws
use Rattle.planning_dry_pass.proofs.size_one.Goals as goal

pub overflow_sub-result : goal.overflow_sub-result
overflow_sub-result c =
    let q = c.requires.4.arena in
    let a = c.args in
    let w = whole_key (command_of a.bytes.now a.head) (range_bytes a.bytes.now a.key) in
    let h = told-hit a.arena.now w (place_on (setup_now a.g) q.rows a.when.clock a.when.epoch w)
    c.peek_one.result _ _ c.in-Hit.is (c.peek_one.ensures q.rows q.lent) in
    h.0

pub overflow_add-result : goal.overflow_add-result
overflow_add-result c =
    let q = c.requires.4.arena in
    let a = c.args in
    let w = whole_key (command_of a.bytes.now a.head) (range_bytes a.bytes.now a.key) in
    let h = told-hit a.arena.now w (place_on (setup_now a.g) q.rows a.when.clock a.when.epoch w)
    c.peek_one.result _ _ c.in-Hit.is (c.peek_one.ensures q.rows q.lent) in
    let e = h.1 in
    let m = q.lent.largest in
    omega arith

pub missing_len-requires : goal.missing_len-requires
unfolding KeyIn
missing_len-requires c =
    let p = c.requires in
    let s = range-short _ c.args.key _ c.bytes_in-text.ensures p.3 in
    let m = p.1 in
    (p.0, omega arith, m)

pub returns-in-Hit : goal.returns-in-Hit
returns-in-Hit c =
    let a = c.args in
    let w = whole_key (command_of a.bytes.now a.head) (range_bytes a.bytes.now a.key) in
    λ rows o x.
    let h = told-hit a.arena.now w (place_on (setup_now a.g) rows a.when.clock a.when.epoch w) c.peek_one.result _ _
    c.in-Hit.is (c.peek_one.ensures rows o) in
    laws.size-hit a.g.mode _ _ x _ _ h.2 h.3

pub returns-in-Miss : goal.returns-in-Miss
returns-in-Miss c =
    let a = c.args in
    let w = whole_key (command_of a.bytes.now a.head) (range_bytes a.bytes.now a.key) in
    λ rows o x.
    let e = told-miss a.arena.now w (place_on (setup_now a.g) rows a.when.clock a.when.epoch w)
    c.peek_one.result _ c.in-Miss.is
    (c.peek_one.ensures rows o) in
    laws.size-miss a.g.mode a.bytes.now a.head a.key _ x _ _ _ _ e c.bytes_in-text.ensures
    c.missing_len.ensures c.opt_in_len.ensures.0 c.single_len.ensures.0
