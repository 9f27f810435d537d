-- `write_place` meets its contract, by what the lookup finds. Assumes nothing.
use mathlib.Core.Path.{sym, ◌∙◌}
use native.Mathlib.Omega.{arith}
use Rattle.buffer.specs.Part.{part}
use Rattle.planning_ask.specs.Keys.{part-key}
use Rattle.plan_write.specs.Pieces.{range-short}
use Rattle.plan_write.specs.Wrote.{room-is}
use Rattle.planning_places.specs.Pieces.{want_at}
use Rattle.planning_places.specs.Measure.{part_in}
use Rattle.planning_nodes.specs.Places as laws
use Rattle.planning_nodes.proofs.write_place.Goals as goal

pub look_up_key-found-requires : goal.look_up_key-found-requires
look_up_key-found-requires c = let p = c.requires in (p.1, part_in _ _ _ p.0 p.1 p.2, p.3)

pub slice_bounds-write_served-count : goal.slice_bounds-write_served-count
slice_bounds-write_served-count c =
    let a = c.args in
    let p = c.requires in
    let f = c.look_up_key-found.ensures (want_at a.bytes.now a.v a.key)
    (laws.want-key a.bytes.now a.v a.key) (part-key a.bytes.now a.v a.key p.0) in
    let h = laws.found-hit _ _ _ _ _ _ _ _ f p.3.arena _ _ c.in-Hit.is in
    h.order

pub slice_bounds-write_served-start : goal.slice_bounds-write_served-start
slice_bounds-write_served-start c =
    let a = c.args in
    let p = c.requires in
    let f = c.look_up_key-found.ensures (want_at a.bytes.now a.v a.key)
    (laws.want-key a.bytes.now a.v a.key) (part-key a.bytes.now a.v a.key p.0) in
    let h = laws.found-hit _ _ _ _ _ _ _ _ f p.3.arena _ _ c.in-Hit.is in
    h.order

pub slice_bounds-write_served-end : goal.slice_bounds-write_served-end
slice_bounds-write_served-end c =
    let a = c.args in
    let p = c.requires in
    let f = c.look_up_key-found.ensures (want_at a.bytes.now a.v a.key)
    (laws.want-key a.bytes.now a.v a.key) (part-key a.bytes.now a.v a.key p.0) in
    let h = laws.found-hit _ _ _ _ _ _ _ _ f p.3.arena _ _ c.in-Hit.is in
    h.inside

pub write_served-requires : goal.write_served-requires
unfolding part
write_served-requires c =
    let a = c.args in
    let p = c.requires in
    let f = c.look_up_key-found.ensures (want_at a.bytes.now a.v a.key)
    (laws.want-key a.bytes.now a.v a.key) (part-key a.bytes.now a.v a.key p.0) in
    let h = laws.found-hit _ _ _ _ _ _ _ _ f p.3.arena _ _ c.in-Hit.is in
    let r = p.3.arena in
    (room-is _ _ _ _ (laws.node-filled _ _ _ (h.is r.rows r.lent)) (p.4 r.rows r.lent), h.short)

pub write_missing-requires : goal.write_missing-requires
write_missing-requires c =
    let a = c.args in
    let p = c.requires in
    let f = c.look_up_key-found.ensures (want_at a.bytes.now a.v a.key)
    (laws.want-key a.bytes.now a.v a.key) (part-key a.bytes.now a.v a.key p.0) in
    let r = p.3.arena in
    let q = laws.found-miss _ _ _ _ _ _ _ _ f _ c.in-Miss.is r.rows r.lent in
    let b = range-short a.bytes.now a.key _ c.bytes_in-text.ensures p.1 in
    let m = p.2 in (
      part_in a.bytes.now a.v a.key p.0 p.1 m,
      omega arith,
      m,
      room-is _ _ _ _ (laws.node-waiting _ _ _ _ _ q (c.bytes_in-text.ensures ∙ sym (laws.want-key a.bytes.now a.v a.key))
          (part-key a.bytes.now a.v a.key p.0)) (p.4 r.rows r.lent),
    )

pub overflow_add-result : goal.overflow_add-result
overflow_add-result c =
    let p = c.requires.5 in
    omega arith

pub returns-in-Hit : goal.returns-in-Hit
unfolding part
returns-in-Hit c =
    let a = c.args in
    let p = c.requires in
    let f = c.look_up_key-found.ensures
    (want_at a.bytes.now a.v a.key) (laws.want-key a.bytes.now a.v a.key) (part-key a.bytes.now a.v a.key p.0) in
    let h = laws.found-hit _ _ _ _ _ _ _ _ f p.3.arena _ _ c.in-Hit.is in
    laws.placed-hit _ _ _ _ _ _ _ _ _ _ _ f _ _ _ h c.write_served.ensures

pub returns-in-Miss : goal.returns-in-Miss
returns-in-Miss c =
    let a = c.args in
    let p = c.requires in
    let f = c.look_up_key-found.ensures
    (want_at a.bytes.now a.v a.key) (laws.want-key a.bytes.now a.v a.key) (part-key a.bytes.now a.v a.key p.0) in
    laws.placed-miss _ _ _ _ _ _ _ _ _ _ _ f _ _ _ _ c.in-Miss.is
    (c.bytes_in-text.ensures ∙ sym (laws.want-key a.bytes.now a.v a.key))
    (part-key a.bytes.now a.v a.key p.0) (laws.want-fits a.bytes.now a.v a.key p.0 p.1 p.2)
    c.write_missing.ensures
