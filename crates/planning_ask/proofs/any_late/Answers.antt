-- `planning_ask::any_late` meets its contract. Assumes nothing.
use mathlib.Core.Path.{◌≡◌, refl, sym, ap, ◌∙◌}
use Prim.Native.Nat.{ℕ, ◌+◌, ◌-◌}
use native.Mathlib.Omega.{arith}
use Rattle.cursor.specs.At.{args_end, command_of}
use Rattle.cursor.specs.Steps as steps
use Rattle.cursor.specs.declared.Head.{Head}
use Rattle.planning_ask.specs.Asked.{late}
use Rattle.planning_ask.proofs.LatePlaces as laws
use Rattle.planning_ask.proofs.any_late.Goals as goal

pub loop-init : goal.loop-init
loop-init c =
    let z : c.args.k.left - 0 ≡ c.args.k.left = omega arith in
    rw z (c.requires, refl)

pub head_at-head-requires : goal.head_at-head-requires
head_at-head-requires c = (steps.commands-in _ _ _ _ (steps.one_more _ (λ z. omega arith)) c.loop.invariant.0).0

pub is_late-requires : goal.is_late-requires
is_late-requires c = rw c.head_at-head.ensures (steps.commands-in _ _ _ _ (steps.one_more _ (λ z. omega arith)) c.loop.invariant.0).1

pub returns-then-is_late : goal.returns-then-is_late
returns-then-is_late c =
    let l : ℕ = c.args.k.left - c.loop.counter in
    let m : ℕ = c.args.k.left - (c.loop.counter + 1) in
    let h = ap (λ (x : Head). late c.args.g c.args.clock (command_of c.args.bytes.now x)) (sym c.head_at-head.ensures)
    ∙ sym c.is_late.ensures ∙ c.if-is_late.true in
    sym (c.loop.invariant.1 ∙ laws.late-here _ _ _ l m _ (omega arith) h)

pub args_end-at-requires : goal.args_end-at-requires
args_end-at-requires c = rw c.head_at-head.ensures (steps.commands-in _ _ _ _ (steps.one_more _ (λ z. omega arith)) c.loop.invariant.0).1

pub loop-preserved : goal.loop-preserved
loop-preserved c =
    let l : ℕ = c.args.k.left - c.loop.counter in
    let m : ℕ = c.args.k.left - (c.loop.counter + 1) in
    let q : l ≡ m + 1 = omega arith in
    let d = c.head_at-head.ensures in
    let h = ap (λ (x : Head). late c.args.g c.args.clock (command_of c.args.bytes.now x)) (sym d) ∙ sym c.is_late.ensures ∙ c.if-is_late.false in
    let e = c.args_end-at.ensures ∙ ap (λ (x : Head). args_end c.args.bytes.now x.args.left x.args.at) d in
    rw e ((steps.commands-in _ l m _ q c.loop.invariant.0).2, c.loop.invariant.1 ∙ laws.late-later _ _ _ l m _ q h)

pub returns : goal.returns
returns c = sym (c.loop.invariant.1 ∙ laws.late-none _ _ _ (c.args.k.left - c.loop.counter) 0 _ (omega arith))
