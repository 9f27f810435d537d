-- `write_several` meets its contract: a head before the places, and where some wait their end. Assumes nothing.
use native.Mathlib.Omega.{arith}
use mathlib.Core.List.{[]}
use Rattle.planning_ask.specs.Asked.{several_name, path_in}
use Rattle.plan_write.specs.Pieces.{length-node}
use Rattle.planning_places.specs.Pieces.{places_now}
use Rattle.planning_nodes.specs.Prepared as laws
use Rattle.planning.specs.Plan.{all_served_kind, several_kind}
use Rattle.planning_nodes.proofs.write_several.Goals as goal

pub overflow_add-start : goal.overflow_add-start
overflow_add-start c =
    let a = c.args in
    let p = c.requires in
    let q = p.2.arena in
    let b = laws.several-least a.expiry (places_now a.g q.rows a.when.clock a.when.epoch a.bytes.now a.v) (several_name a.v.json)
    (path_in a.bytes.now a.v) in
    let r = p.3 q.rows q.lent in
    omega arith

pub write_places-x-requires : goal.write_places-x-requires
write_places-x-requires c =
    let a = c.args in
    let p = c.requires in (
      p.0,
      p.1,
      p.2,
      λ rows o.
          let b = laws.several-least a.expiry (places_now a.g rows a.when.clock a.when.epoch a.bytes.now a.v) (several_name a.v.json)
          (path_in a.bytes.now a.v) in
          let r = p.3 rows o in
          omega arith,
      omega arith,
    )

pub write_bare-requires : goal.write_bare-requires
write_bare-requires c =
    let a = c.args in
    let p = c.requires in
    let q = p.2.arena in
    let b = laws.several-least a.expiry (places_now a.g q.rows a.when.clock a.when.epoch a.bytes.now a.v) (several_name a.v.json)
    (path_in a.bytes.now a.v) in
    let r = p.3 q.rows q.lent in
    let l = length-node all_served_kind [] [] a.v.keys in
    let k = c.plan-1.given in
    omega arith

pub write_bare-requires-else-x-eq0 : goal.write_bare-requires-else-x-eq0
write_bare-requires-else-x-eq0 c =
    let a = c.args in
    let p = c.requires in
    let q = p.2.arena in
    let b = laws.several-least a.expiry (places_now a.g q.rows a.when.clock a.when.epoch a.bytes.now a.v) (several_name a.v.json)
    (path_in a.bytes.now a.v) in
    let r = p.3 q.rows q.lent in
    let l = length-node several_kind [] [] a.v.keys in
    let k = c.plan-1.given in
    omega arith

pub write_bare-end-requires : goal.write_bare-end-requires
write_bare-end-requires c =
    let a = c.args in
    let p = c.requires in
    let y = c.write_places-x.ensures in
    let q = p.2.arena in
    let rows = q.rows in
    let o = q.lent in
    let m = y.number rows o in
    laws.prepares-room a.g rows a.when.clock a.when.epoch a.expiry a.bytes.now a.v p.0 a.bytes.now _ _ _ a.to _ _ a.counts
    (p.3 rows o) (y.wrote rows o) (omega arith) c.if-x-eq0.false
    c.write_bare-else-x-eq0.ensures.1

pub returns-then-x-eq0 : goal.returns-then-x-eq0
returns-then-x-eq0 c =
    let a = c.args in
    let p = c.requires in
    let y = c.write_places-x.ensures in (
      y.looks,
      λ rows o d.
          let m = y.number rows o in
          laws.prepares-served a.g rows a.when.clock a.when.epoch a.expiry a.bytes.now a.v p.0 _ _ _ _ a.to _ _ _ (p.3 rows o)
          (y.wrote rows o) (omega arith) d c.if-x-eq0.true c.write_bare.ensures.1,
    )

pub returns-else-x-eq0 : goal.returns-else-x-eq0
returns-else-x-eq0 c =
    let a = c.args in
    let p = c.requires in
    let y = c.write_places-x.ensures in (
      y.looks,
      λ rows o d.
          let m = y.number rows o in
          laws.prepares-missing a.g rows a.when.clock a.when.epoch a.expiry a.bytes.now a.v p.0 _ _ _ _ a.to _ _ _ (p.3 rows o)
          (y.wrote rows o) (omega arith) c.if-x-eq0.false
          c.write_bare-else-x-eq0.ensures.1 d _ _ c.write_bare-end.ensures
          c.ranges.expiry.fits
          (y.fits rows o),
    )
