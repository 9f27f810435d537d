-- `measure_key` meets its contract, by what the peek tells. Assumes nothing.
use mathlib.Core.Path.{refl}
use native.Mathlib.Omega.{arith}
use Rattle.plan_write.specs.Pieces.{range-short}
use Rattle.planning_outcome.specs.Places.{told-hit, told-miss}
use Rattle.planning_places.specs.Pieces.{want_at, place_at}
use Rattle.planning_places.specs.Measure as laws
use Rattle.planning_places.proofs.measure_key.Goals as goal

pub overflow_sub-result : goal.overflow_sub-result
overflow_sub-result c =
    let r = c.requires.3.arena in
    let a = c.args in
    let h = told-hit a.arena.now (want_at a.bytes.now a.v a.key)
    (place_at a.g r.rows a.when.clock a.when.epoch a.bytes.now a.v a.key) c.peek_key.result _ _
    c.in-Hit.is (c.peek_key.ensures r.rows r.lent) in
    h.0

pub overflow_add-result : goal.overflow_add-result
overflow_add-result c =
    let r = c.requires.3.arena in
    let a = c.args in
    let h = told-hit a.arena.now (want_at a.bytes.now a.v a.key)
    (place_at a.g r.rows a.when.clock a.when.epoch a.bytes.now a.v a.key) c.peek_key.result _ _
    c.in-Hit.is (c.peek_key.ensures r.rows r.lent) in
    let e = h.1 in
    let m = r.lent.largest in
    omega arith

pub overflow_add-result-in-Hit : goal.overflow_add-result-in-Hit
overflow_add-result-in-Hit c =
    let r = c.requires.3.arena in
    let a = c.args in
    let h = told-hit a.arena.now (want_at a.bytes.now a.v a.key)
    (place_at a.g r.rows a.when.clock a.when.epoch a.bytes.now a.v a.key) c.peek_key.result _ _
    c.in-Hit.is (c.peek_key.ensures r.rows r.lent) in
    let e = h.1 in
    let m = r.lent.largest in
    let b = c.requires.4.nodes in
    omega arith

pub overflow_add-result-in-Miss : goal.overflow_add-result-in-Miss
overflow_add-result-in-Miss c = let b = c.requires.4.number in omega arith

pub missing_len-requires : goal.missing_len-requires
missing_len-requires c =
    let p = c.requires in
    let a = c.args in
    let s = range-short a.bytes.now a.key _ c.bytes_in-text.ensures p.1 in
    let m = p.2 in
    (laws.part_in a.bytes.now a.v a.key p.0 p.1 m, omega arith, m)

pub overflow_add-result-in-Miss-2 : goal.overflow_add-result-in-Miss-2
overflow_add-result-in-Miss-2 c =
    let p = c.requires in
    let a = c.args in
    let f = (laws.waiting_few a.bytes.now a.v a.key p.0 p.1 _ c.bytes_in-text.ensures _ _
    c.missing_len.ensures refl p.2).0 in
    let b = p.4.nodes in
    omega arith

pub bulklen-requires : goal.bulklen-requires
bulklen-requires c =
    let a = c.args in
    let s = range-short a.bytes.now a.key _ c.bytes_in-text.ensures
    c.requires.1 in
    let m = c.requires.2 in
    omega arith

pub overflow_add-result-in-Miss-3 : goal.overflow_add-result-in-Miss-3
overflow_add-result-in-Miss-3 c =
    let p = c.requires in
    let a = c.args in
    let f = (laws.waiting_few a.bytes.now a.v a.key p.0 p.1 _ c.bytes_in-text.ensures _ _
    c.missing_len.ensures c.bulklen.ensures p.2).1 in
    let b = p.4.keys in
    omega arith

pub returns-in-Hit : goal.returns-in-Hit
returns-in-Hit c =
    let q = c.requires.3.arena in
    let a = c.args in
    let h = told-hit a.arena.now (want_at a.bytes.now a.v a.key)
    (place_at a.g q.rows a.when.clock a.when.epoch a.bytes.now a.v a.key) c.peek_key.result _ _
    c.in-Hit.is (c.peek_key.ensures q.rows q.lent) in
    let e = h.1 in
    let m = q.lent.largest in (
      λ rows l.
          let k = told-hit a.arena.now (want_at a.bytes.now a.v a.key)
          (place_at a.g rows a.when.clock a.when.epoch a.bytes.now a.v a.key) c.peek_key.result _ _
          c.in-Hit.is (c.peek_key.ensures rows l) in
          laws.more-filled a.m _ _ _ k.2 k.3,
      record { number = omega arith; nodes = omega arith; keys = omega arith },
    )

pub returns-in-Miss : goal.returns-in-Miss
returns-in-Miss c =
    let p = c.requires in
    let a = c.args in
    let f = laws.waiting_few a.bytes.now a.v a.key p.0 p.1 _ c.bytes_in-text.ensures _ _
    c.missing_len.ensures c.bulklen.ensures p.2 in
    let x = f.0 in
    let y = f.1 in (
      λ rows l.
          laws.more-waiting a.bytes.now a.v a.key p.0 p.1 _ c.bytes_in-text.ensures _ _
          c.missing_len.ensures c.bulklen.ensures a.m _
          (told-miss a.arena.now (want_at a.bytes.now a.v a.key)
          (place_at a.g rows a.when.clock a.when.epoch a.bytes.now a.v a.key)
          c.peek_key.result _
          c.in-Miss.is
          (c.peek_key.ensures rows l)),
      record { number = omega arith; nodes = omega arith; keys = omega arith },
    )
