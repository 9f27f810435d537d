-- `trap_send::send_room` meets its contract. Assumes nothing.
use mathlib.Core.Path.{◌≡◌, ap, ◌∙◌}
use Prim.Native.Nat.{◌+◌, ℕ, ◌-◌}
use native.Mathlib.Omega.{arith}
use Rattle.cursor.specs.At.{args_end}
use Rattle.cursor.specs.Steps.{one_more}
use Rattle.cursor.specs.declared.Head.{Head}
use Rattle.planning_dry_pass.specs.Dry.{planable-room, planable-first}
use Rattle.trap_send.specs.Walk as laws
use Rattle.trap_send.proofs.send_room.Goals as goal

pub loop-init : goal.loop-init
loop-init c =
    let z : c.args.k.left - 0 ≡ c.args.k.left = omega arith in
    rw z (laws.counted_start _ _ _ _ _ _ _ _ c.requires.0)

pub head_at-head-requires : goal.head_at-head-requires
head_at-head-requires c = planable-room _ _ _ _ _ _ (one_more _ (λ z. omega arith)) c.loop.invariant.ahead

pub command_len-requires : goal.command_len-requires
command_len-requires c =
    let w = c.requires in
    (planable-first _ _ _ _ _ _ (one_more _ (λ z. omega arith)) c.loop.invariant.ahead _ c.head_at-head.ensures, w.1, w.2)

pub spend-q-requires : goal.spend-q-requires
spend-q-requires c = tt

pub args_end-at-requires : goal.args_end-at-requires
args_end-at-requires c =
    (planable-first _ _ _ _ _ _ (one_more _ (λ z. omega arith)) c.loop.invariant.ahead _
    c.head_at-head.ensures).here

pub loop-preserved : goal.loop-preserved
loop-preserved c =
    let l : ℕ = c.args.k.left - c.loop.counter in
    let m : ℕ = c.args.k.left - (c.loop.counter + 1) in
    let d = c.head_at-head.ensures in
    let f = c.args_end-at.ensures ∙ ap
    (λ (x : Head). args_end c.args.bytes.now x.args.left x.args.at) d in
    rw c.spend-q.ensures
    (laws.counted_next _ _ _ _ _ _ _ _ l m _ _ _ _ _ (omega arith) d f c.command_len.ensures
    c.loop.invariant)

pub returns : goal.returns
returns c = λ rows o. laws.counted-end _ _ _ _ _ _ _ _ _ _ _ (omega arith) c.loop.invariant rows o
