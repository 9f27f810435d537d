-- `command_key::joined_copy` meets its contract by its loop's invariant. Assumes nothing.
use mathlib.Core.Path.{refl, sym, ap, ◌∙◌}
use mathlib.Core.List.{◌++◌}
use native.Mathlib.Omega.{arith}
use Rattle.buffer.specs.Copied as cop
use Rattle.cursor.specs.At.{args_of}
use Rattle.cursor.specs.Steps.{Stepped, iter-next, iter-done}
use Rattle.command_key.specs.Key.{command_key}
use Rattle.command_key.specs.Joined as laws
use Rattle.command_key.proofs.joined_copy.Goals as goal
use Rattle.command_key.proofs.joined_copy.Goals.{In-Some}

-- the argument that comes
this : (c : In-Some) → Stepped c.args.s.now c.loop-arg.arg-iterator.rest c.in-Some.arg c.next.new.self.rest
this c = iter-next _ _ c.loop-arg.invariant.0 _ _ c.loop-arg.invariant.1 _ c.in-Some.ensures.steps.1

pub loop-arg-init : goal.loop-arg-init
loop-arg-init c =
    let e = c.args_iter-arg-items.ensures in
    rw c.into_iter-arg-iterator.ensures.into_iter_gives (rw e.1 (e.0, c.requires.0, cop.copied-start _ _ _ c.requires.1))

pub own_bytes-text-requires : goal.own_bytes-text-requires
own_bytes-text-requires c = (this (goal.at.own_bytes-text-requires c).In-Some).inside

pub copy_to-requires : goal.copy_to-requires
copy_to-requires c =
    rw c.own_bytes-text.ensures
    (cop.copied-room _ _ _ _ _ _ _ _ (laws.key-more _ _ _ _ (this (goal.at.copy_to-requires c).In-Some)) c.loop-arg.invariant.2)

pub overflow_add-next : goal.overflow_add-next
overflow_add-next c =
    let w = this (goal.at.overflow_add-next c).In-Some in
    let l = laws.key-length _ _ _ _ w in
    let r = c.loop-arg.invariant.2.room in
    rw c.own_bytes-text.ensures (omega arith)

pub loop-arg-preserved : goal.loop-arg-preserved
loop-arg-preserved c =
    let w = this (goal.at.loop-arg-preserved c).In-Some in
    let v = c.loop-arg.invariant in (
      ap (λ x. x.now) c.in-Some.ensures.steps.0 ∙ v.0,
      w.here,
      cop.copied_next _ _ _ _ _ _ _ _ _ _ (laws.key-more _ _ _ _ w ∙ ap (λ x. x ++ command_key (args_of c.args.s.now c.next.new.self.rest)) (sym c.own_bytes-text.ensures)) refl c.copy_to.ensures v.2,
    )

pub returns : goal.returns
returns c =
    let z = iter-done _ _ c.loop-arg.invariant.0 _ _ c.loop-arg.invariant.1 c.in-None.ensures.steps.1 in
    cop.copied-done _ _ _ _ _ _ (laws.key-none _ _ z) c.loop-arg.invariant.2
