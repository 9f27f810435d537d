-- `measure` meets its contract: what is left and what was measured come to the whole. Assumes nothing.
use mathlib.Core.Path.{◌≡◌}
use Prim.Native.Nat.{◌+◌, ℕ, ◌-◌}
use native.Mathlib.Omega.{arith}
use Rattle.planning_places.specs.Steps.{keys-few}
use Rattle.planning_places.specs.Measure as laws
use Rattle.planning_places.proofs.measure.Goals as goal

pub loop-init : goal.loop-init
loop-init c =
    let z : c.args.v.keys - 0 ≡ c.args.v.keys = omega arith in
    rw z (laws.measuring-start _ _ _ _ _ _ c.requires.0)

pub next_key-here-requires : goal.next_key-here-requires
next_key-here-requires c = let w = c.loop.invariant in let x = w.enough in (w.here, omega arith)

pub measure_key-m-requires : goal.measure_key-m-requires
measure_key-m-requires c =
    let p = c.requires in
    let w = c.loop.invariant.bound in
    let x = w.0 in
    let y = w.1 in
    let z = w.2 in
    let f = keys-few _ _ p.0 in
    let m = p.1 in
    (p.0, c.next_key-here.ensures.inside, m, p.2, record { number = omega arith; nodes = omega arith; keys = omega arith })

pub loop-preserved : goal.loop-preserved
loop-preserved c =
    let l : ℕ = c.args.v.keys - c.loop.counter in
    let m : ℕ = c.args.v.keys - (c.loop.counter + 1) in
    let e = c.measure_key-m.ensures in
    laws.measuring-next _ _ _ _ _ _ _ _ _ l m _ _ c.next_key-here.result (omega arith)
    c.next_key-here.ensures e.1 e.0 c.loop.invariant

pub returns : goal.returns
returns c =
    let w = c.loop.invariant in
    (laws.measuring-end _ _ _ _ _ _ _ _ _ _ _ (omega arith) w, laws.measuring-few _ _ _ _ _ _ _ _ _ _ _ w)
