-- `planning_dry_pass::size_several` meets its contract. Assumes nothing.
use native.Mathlib.Omega.{arith}
use Rattle.planning.specs.Outcome.{missing}
use Rattle.planning.specs.Sent.{keys_of}
use Rattle.planning_places.specs.Pieces.{places_now}
use Rattle.planning_places.specs.Steps.{keys-few}
use Rattle.planning_send.specs.Sends.{keys_length}
use mathlib.Core.Path.{sym, ◌∙◌}
use Rattle.planning_dry_pass.specs.Size as laws
use Rattle.planning_dry_pass.proofs.size_several.Goals as goal

pub overflow_add-result : goal.overflow_add-result
overflow_add-result c =
    let p = c.requires in
    let f = keys-few _ _ p.0 in
    let l = p.1 in
    let b = c.measure-m.ensures.1 in
    let x = b.number in
    let y = b.nodes in
    let z = b.keys in
    omega arith

pub overflow_add-result-else-m-eq0 : goal.overflow_add-result-else-m-eq0
overflow_add-result-else-m-eq0 c =
    let p = c.requires in
    let f = keys-few _ _ p.0 in
    let l = p.1 in
    let b = c.measure-m.ensures.1 in
    let x = b.number in
    let y = b.nodes in
    let z = b.keys in
    omega arith

pub several_len-requires : goal.several_len-requires
several_len-requires c =
    let p = c.requires in
    let f = keys-few _ _ p.0 in
    let l = p.1 in
    let b = c.measure-m.ensures.1 in
    let x = b.number in
    let y = b.nodes in
    let z = b.keys in
    let e = c.if-m-eq0.false in
    (p.0, l, omega arith, record { number = omega arith; nodes = omega arith; keys = omega arith })

pub returns-then-m-eq0 : goal.returns-then-m-eq0
returns-then-m-eq0 c =
    let a = c.args in
    λ rows o d x.
    laws.size-served a.g.mode d a.bytes.now a.v _ x c.measure-m.result
    (c.measure-m.ensures.0 rows o) c.if-m-eq0.true

pub returns-else-m-eq0 : goal.returns-else-m-eq0
returns-else-m-eq0 c =
    let p = c.requires in
    let f = keys-few _ _ p.0 in
    let l = p.1 in
    let b = c.measure-m.ensures.1 in
    let x = b.number in
    let y = b.nodes in
    let z = b.keys in
    let a = c.args in
    let e = c.if-m-eq0.false in
    λ rows o d x.
    let m = c.measure-m.ensures.0 rows o in
    let ks = keys_of (missing (places_now a.g rows a.when.clock a.when.epoch a.bytes.now a.v)) in
    laws.size-missing a.g.mode d a.bytes.now a.v _ x c.measure-m.result m p.0 e (omega arith) _ _
    c.opt_in_len.ensures.0
    (c.several_len.ensures.0 ks (m.number ∙ sym (keys_length (missing (places_now a.g rows a.when.clock a.when.epoch a.bytes.now a.v))))
    m.keys)
