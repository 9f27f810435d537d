-- `trap_send::write_commands` meets its contract. Assumes nothing.
use mathlib.Core.Path.{◌≡◌, refl, ap, ◌∙◌}
use Prim.Native.Nat.{◌+◌, ℕ, ◌-◌}
use native.Mathlib.Omega.{arith}
use Rattle.cursor.specs.At.{args_end}
use Rattle.cursor.specs.Steps.{one_more}
use Rattle.cursor.specs.declared.Head.{Head}
use Rattle.planning_dry_pass.specs.Dry.{planable-room, planable-first}
use Rattle.trap_send.specs.Walk as laws
use Rattle.trap_send.proofs.write_commands.Goals as goal

pub loop-init : goal.loop-init
loop-init c =
    let z : c.args.k.left - 0 ≡ c.args.k.left = omega arith in
    rw z (let w = c.requires in laws.writing_start _ _ _ _ _ _ _ _ _ w.0 w.3)

pub head_at-head-requires : goal.head_at-head-requires
head_at-head-requires c = planable-room _ _ _ _ _ _ (one_more _ (λ z. omega arith)) c.loop.invariant.ahead

pub write_command-n-requires : goal.write_command-n-requires
write_command-n-requires c =
    let w = c.requires in
    let i = c.loop.invariant in (
      planable-first _ _ _ _ _ _ (one_more _ (λ z. omega arith)) c.loop.invariant.ahead _
          c.head_at-head.ensures,
      w.1,
      w.2,
      laws.writing-room _ _ _ _ _ _ _ _ _ _ _ _ _ _ (one_more _ (λ z. omega arith))
          c.head_at-head.ensures _ _ refl i,
      w.4,
    )

pub args_end-at-requires : goal.args_end-at-requires
args_end-at-requires c =
    (planable-first _ _ _ _ _ _ (one_more _ (λ z. omega arith)) c.loop.invariant.ahead _
    c.head_at-head.ensures).here

pub loop-preserved : goal.loop-preserved
loop-preserved c =
    let l : ℕ = c.args.k.left - c.loop.counter in
    let m : ℕ = c.args.k.left - (c.loop.counter + 1) in
    let d = c.head_at-head.ensures in
    let f = c.args_end-at.ensures ∙ ap
    (λ (x : Head). args_end c.args.bytes.now x.args.left
    x.args.at) d in
    laws.writing-next _ _ _ _ _ _ _ _ _ l m _ _ _ (omega arith) d _ _ f
    c.requires.2 _ _
    c.write_command-n.ensures c.loop.invariant

pub shape_of-out : goal.shape_of-out
shape_of-out c = c.loop.invariant.long

pub returns : goal.returns
returns c = laws.writing-end _ _ _ _ _ _ _ _ _ _ _ _ _ (omega arith) c.loop.invariant
