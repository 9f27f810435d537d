-- `write_places` meets its contract, key after key. Assumes nothing.
use mathlib.Core.Path.{◌≡◌}
use Prim.Native.Nat.{ℕ, ◌+◌, ◌-◌}
use native.Mathlib.Omega.{arith}
use Rattle.planning_look_up.specs.Looks.{looks-filters}
use Rattle.planning_places.specs.Steps.{keys-few}
use Rattle.planning_nodes.specs.Places as laws
use Rattle.planning_nodes.proofs.write_places.Goals as goal

pub loop-init : goal.loop-init
loop-init c =
    let z : c.args.v.keys - 0 ≡ c.args.v.keys = omega arith in
    rw z (let p = c.requires in (laws.writing_start _ _ _ _ _ _ _ _ _ p.0 p.2.arena p.3, p.2.filters))

pub next_key-here-requires : goal.next_key-here-requires
next_key-here-requires c = let w = c.loop.invariant.0.turn in let x = w.enough in (w.here, omega arith)

pub write_place-y-requires : goal.write_place-y-requires
write_place-y-requires c =
    let p = c.requires in
    let n = c.loop.invariant in
    let h = n.0 in
    let l : ℕ = c.args.v.keys - c.loop.counter in
    let q : l ≡ l - 1 + 1 = omega arith in
    let i = c.next_key-here.ensures in
    let f = keys-few _ _ p.0 in
    let m = p.1 in
    let o = p.4 in
    let b = h.few in (
      p.0,
      i.inside,
      m,
      record { arena = h.turn.arena; filters = n.1 },
      laws.writing-room _ _ _ _ _ _ _ _ _ p.2.arena _ l (l - 1) _ _ _
          c.next_key-here.result q i h,
      omega arith,
    )

pub loop-preserved : goal.loop-preserved
loop-preserved c =
    let p = c.requires in
    let l : ℕ = c.args.v.keys - c.loop.counter in
    let m : ℕ = c.args.v.keys - (c.loop.counter + 1) in
    let n = c.loop.invariant in
    let q : l ≡ m + 1 = omega arith in
    let w = c.write_place-y.ensures in (
      laws.writing-next _ _ _ _ _ _ _ _ _ p.2.arena _ l m _ _ _
          c.next_key-here.result q
          c.next_key-here.ensures n.0 _ _ _ w c.arena-1.given,
      looks-filters _ _ _ _ _ _ _ _ _ w.looks n.0.turn.arena n.1,
    )

pub shape_of-plan : goal.shape_of-plan
shape_of-plan c = let r = c.requires.2.arena in (c.loop.invariant.0.copied r.rows r.lent).long

pub shape_of-arena : goal.shape_of-arena
shape_of-arena c = c.loop.invariant.0.long

pub returns : goal.returns
returns c = laws.writing-end _ _ _ _ _ _ _ _ _ _ _ _ _ _ (omega arith) c.loop.invariant.0
