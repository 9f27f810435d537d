-- `write_one` meets its contract, by what the lookup finds. Assumes nothing.
use mathlib.Core.Path.{refl}
use native.Mathlib.Omega.{arith}
use Rattle.buffer.specs.Part.{part}
use Rattle.command_key.specs.Key.{KeyIn}
use Rattle.cursor.specs.At.{range_bytes, command_of}
use Rattle.planning.specs.Outcome.{whole_key}
use Rattle.planning_ask.specs.Keys.{whole-key}
use Rattle.plan_write.specs.Pieces.{range-short}
use Rattle.plan_write.specs.Wrote.{room-is}
use Rattle.planning_nodes.specs.Places.{found-hit, found-miss}
use Rattle.planning_nodes.specs.Prepared as laws
use Rattle.planning_nodes.proofs.write_one.Goals as goal

pub look_up_key-found-requires : goal.look_up_key-found-requires
unfolding KeyIn
look_up_key-found-requires c =
    let p = c.requires in
    (p.1, p.0, p.3)

pub slice_bounds-write_served-count : goal.slice_bounds-write_served-count
slice_bounds-write_served-count c =
    let a = c.args in
    let p = c.requires in
    let f = c.look_up_key-found.ensures
    (whole_key (command_of a.bytes.now a.head) (range_bytes a.bytes.now a.key)) (laws.whole_is a.bytes.now a.head a.key)
    (whole-key a.bytes.now a.head (range_bytes a.bytes.now a.key)) in
    let h = found-hit _ _ _ _ _ _ _ _ f p.3.arena _ _ c.in-Hit.is in
    h.order

pub slice_bounds-write_served-start : goal.slice_bounds-write_served-start
slice_bounds-write_served-start c =
    let a = c.args in
    let p = c.requires in
    let f = c.look_up_key-found.ensures
    (whole_key (command_of a.bytes.now a.head) (range_bytes a.bytes.now a.key)) (laws.whole_is a.bytes.now a.head a.key)
    (whole-key a.bytes.now a.head (range_bytes a.bytes.now a.key)) in
    let h = found-hit _ _ _ _ _ _ _ _ f p.3.arena _ _ c.in-Hit.is in
    h.order

pub slice_bounds-write_served-end : goal.slice_bounds-write_served-end
slice_bounds-write_served-end c =
    let a = c.args in
    let p = c.requires in
    let f = c.look_up_key-found.ensures
    (whole_key (command_of a.bytes.now a.head) (range_bytes a.bytes.now a.key)) (laws.whole_is a.bytes.now a.head a.key)
    (whole-key a.bytes.now a.head (range_bytes a.bytes.now a.key)) in
    let h = found-hit _ _ _ _ _ _ _ _ f p.3.arena _ _ c.in-Hit.is in
    h.inside

pub write_served-requires : goal.write_served-requires
unfolding part
write_served-requires c =
    let a = c.args in
    let p = c.requires in
    let f = c.look_up_key-found.ensures
    (whole_key (command_of a.bytes.now a.head) (range_bytes a.bytes.now a.key)) (laws.whole_is a.bytes.now a.head a.key)
    (whole-key a.bytes.now a.head (range_bytes a.bytes.now a.key)) in
    let h = found-hit _ _ _ _ _ _ _ _ f p.3.arena _ _ c.in-Hit.is in
    let r = p.3.arena in (
      room-is _ _ _ _ (laws.one-filled a.g r.rows a.when.clock a.when.epoch a.expiry a.bytes.now a.head a.key _
          (h.is r.rows r.lent))
          (p.4 r.rows r.lent),
      h.short,
    )

pub write_missing-requires : goal.write_missing-requires
unfolding KeyIn
write_missing-requires c =
    let a = c.args in
    let p = c.requires in
    let f = c.look_up_key-found.ensures
    (whole_key (command_of a.bytes.now a.head) (range_bytes a.bytes.now a.key)) (laws.whole_is a.bytes.now a.head a.key)
    (whole-key a.bytes.now a.head (range_bytes a.bytes.now a.key)) in
    let r = p.3.arena in
    let q = found-miss _ _ _ _ _ _ _ _ f _ c.in-Miss.is r.rows r.lent in
    let b = range-short a.bytes.now a.key _ c.bytes_in-text.ensures p.1 in
    let m = p.2 in (
      p.0,
      omega arith,
      m,
      room-is _ _ _ _
          (laws.one-waiting a.g r.rows a.when.clock a.when.epoch a.expiry a.bytes.now a.head a.key _ _ q
          c.bytes_in-text.ensures refl)
          (p.4 r.rows r.lent),
    )

pub returns-in-Hit : goal.returns-in-Hit
unfolding part
returns-in-Hit c =
    let a = c.args in
    let p = c.requires in
    let f = c.look_up_key-found.ensures
    (whole_key (command_of a.bytes.now a.head) (range_bytes a.bytes.now a.key)) (laws.whole_is a.bytes.now a.head a.key)
    (whole-key a.bytes.now a.head (range_bytes a.bytes.now a.key)) in
    let h = found-hit _ _ _ _ _ _ _ _ f p.3.arena _ _ c.in-Hit.is in (
      f.looks,
      λ rows o.
          laws.prepares-hit a.g rows a.when.clock a.when.epoch a.expiry a.bytes.now a.head a.key _ _ a.to _ _ _ _ _ h.order
          h.inside
          (h.is rows o) c.write_served.ensures,
    )

pub returns-in-Miss : goal.returns-in-Miss
returns-in-Miss c =
    let a = c.args in
    let p = c.requires in
    let f = c.look_up_key-found.ensures
    (whole_key (command_of a.bytes.now a.head) (range_bytes a.bytes.now a.key)) (laws.whole_is a.bytes.now a.head a.key)
    (whole-key a.bytes.now a.head (range_bytes a.bytes.now a.key)) in (
      f.looks,
      λ rows o.
          laws.prepares-miss a.g rows a.when.clock a.when.epoch a.expiry a.bytes.now a.head a.key _ _ a.to _ _ _
          c.in-Miss.field-0 _ _ p.1
          (found-miss _ _ _ _ _ _ _ _ f _ c.in-Miss.is rows o)
          c.bytes_in-text.ensures refl c.write_missing.ensures,
    )
