-- `planning_second_pass::plan_commands` meets its contract. Assumes nothing.
use mathlib.Core.Path.{◌≡◌, ap, ◌∙◌}
use Prim.Native.Nat.{◌+◌, ℕ, ◌-◌}
use native.Mathlib.Omega.{arith}
use Rattle.cursor.specs.At.{args_end}
use Rattle.cursor.specs.Steps.{one_more}
use Rattle.cursor.specs.declared.Head.{Head}
use Rattle.planning_look_up.specs.Looks.{looks-filters}
use Rattle.planning_dry_pass.specs.Dry.{planable-room, planable-first}
use Rattle.planning_second_pass.specs.Going as laws
use Rattle.planning_second_pass.proofs.plan_commands.Goals as goal

pub loop-init : goal.loop-init
loop-init c =
    let z : c.args.k.left - 0 ≡ c.args.k.left = omega arith in
    rw z (let w = c.requires in (laws.going_start _ _ _ _ _ _ _ _ _ _ w.0 w.2.arena w.3, w.2.filters))

pub head_at-head-requires : goal.head_at-head-requires
head_at-head-requires c = planable-room _ _ _ _ _ _ (one_more _ (λ z. omega arith)) c.loop.invariant.0.ahead

pub plan_command-y-requires : goal.plan_command-y-requires
plan_command-y-requires c =
    let w = c.requires in
    let i = c.loop.invariant.0 in
    let r = laws.going-room _ _ _ _ _ _ _ _ _ _ _ _ _ _ _ _ _ _ (one_more _ (λ z. omega arith)) c.head_at-head.ensures i in
    let f = i.few in
    let v = w.4 in (
      planable-first _ _ _ _ _ _ (one_more _ (λ z. omega arith)) c.loop.invariant.0.ahead _
          c.head_at-head.ensures,
      w.1,
      record { arena = i.arena; filters = c.loop.invariant.1 },
      r.0,
      r.1,
      omega arith,
    )

pub args_end-at-requires : goal.args_end-at-requires
args_end-at-requires c =
    (planable-first _ _ _ _ _ _ (one_more _ (λ z. omega arith))
    c.loop.invariant.0.ahead _
    c.head_at-head.ensures).here

pub loop-preserved : goal.loop-preserved
loop-preserved c =
    let l : ℕ = c.args.k.left - c.loop.counter in
    let m : ℕ = c.args.k.left - (c.loop.counter + 1) in
    let d = c.head_at-head.ensures in
    let f = c.args_end-at.ensures ∙ ap
    (λ (x : Head). args_end
    c.args.bytes.now
    x.args.left x.args.at) d in
    let o = c.plan_command-y.ensures in
    let n = c.loop.invariant in (
      laws.going_next _ _ _ _ _ _ _ _ _ _ l m _ _ _ _ _ _ _ _ _ _ _ (omega arith) d f o.0 o.1
          c.arena-1.given n.0,
      looks-filters _ _ _ _ _ _ _ _ _ o.0.looks n.0.arena n.1,
    )

pub shape_of-arena : goal.shape_of-arena
shape_of-arena c = c.loop.invariant.0.long

pub shape_of-plan : goal.shape_of-plan
shape_of-plan c = c.loop.invariant.0.plan-long

pub shape_of-send : goal.shape_of-send
shape_of-send c = c.loop.invariant.0.send-long

pub returns : goal.returns
returns c =
    let f = c.loop.invariant.0.few in
    (laws.going_end _ _ _ _ _ _ _ _ _ _ _ _ _ _ _ _ (omega arith) c.loop.invariant.0, omega arith)
