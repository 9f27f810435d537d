-- `command_key::joined_len` meets its contract by its loop's invariant. Assumes nothing.
use mathlib.Core.Path.{ap, ◌∙◌}
use native.Mathlib.Omega.{arith}
use lib.ListN.{length}
use Rattle.cursor.specs.Steps.{Stepped, in_start, iter-next, iter-done}
use Rattle.command_key.specs.Joined as laws
use Rattle.command_key.proofs.joined_len.Goals as goal
use Rattle.command_key.proofs.joined_len.Goals.{In-Some}

-- the argument that comes
this : (c : In-Some) → Stepped c.args.s.now c.loop-arg.arg-iterator.rest c.in-Some.arg c.next.new.self.rest
this c = iter-next _ _ c.loop-arg.invariant.0 _ _ c.loop-arg.invariant.1 _ c.in-Some.ensures.steps.1

pub loop-arg-init : goal.loop-arg-init
loop-arg-init c =
    let e = c.args_iter-arg-items.ensures in
    rw c.into_iter-arg-iterator.ensures.into_iter_gives (rw e.1 (e.0, c.requires, omega arith, omega arith))

pub own_bytes-requires : goal.own_bytes-requires
own_bytes-requires c = (this (goal.at.own_bytes-requires c).In-Some).inside

pub overflow_add-total : goal.overflow_add-total
overflow_add-total c =
    let w = this (goal.at.overflow_add-total c).In-Some in
    let e = w.ends in
    let i = in_start _ _ _ w.here in
    let b = c.loop-arg.invariant.3 in
    rw c.own_bytes.ensures (omega arith)

pub loop-arg-preserved : goal.loop-arg-preserved
loop-arg-preserved c =
    let w = this (goal.at.loop-arg-preserved c).In-Some in
    let v = c.loop-arg.invariant in
    let a = v.2 in
    let b = v.3 in
    let e = w.ends in
    let l = laws.key-length _ _ _ _ w in
    rw c.own_bytes.ensures (ap (λ x. x.now) c.in-Some.ensures.steps.0 ∙ v.0, w.here, omega arith, omega arith)

pub returns : goal.returns
returns c =
    let z = iter-done _ _ c.loop-arg.invariant.0 _ _ c.loop-arg.invariant.1 c.in-None.ensures.steps.1 in
    let l = ap length (laws.key-none c.args.s.now c.loop-arg.arg-iterator.rest z) in
    let a = c.loop-arg.invariant.2 in
    omega arith
