-- `command_key::joined_same` meets its contract by its loop's invariant. Assumes nothing.
use mathlib.Core.Path.{◌≡◌, refl, sym, ap, ◌∙◌}
use mathlib.Core.List.{◌++◌}
use native.Mathlib.Omega.{arith}
use Rattle.buffer.specs.Same.{Bytes, same}
use Rattle.cursor.specs.At.{own, argument_of, args_of}
use Rattle.cursor.specs.Steps.{Stepped, iter-next, iter-done}
use Rattle.command_key.specs.Key.{command_key}
use Rattle.command_key.specs.Joined as laws
use Rattle.command_key.proofs.joined_same.Goals as goal
use Rattle.command_key.proofs.joined_same.Goals.{In-Some}

-- the argument that comes
this : (c : In-Some) → Stepped c.args.s.now c.loop-arg.arg-iterator.rest c.in-Some.arg c.next.new.self.rest
this c = iter-next _ _ c.loop-arg.invariant.0 _ _ c.loop-arg.invariant.1 _ c.in-Some.ensures.steps.1

-- its bytes, and the others'
pieces : (c : In-Some) (x : Bytes) → x ≡ own (argument_of c.args.s.now c.in-Some.arg)
    → command_key (args_of c.args.s.now c.loop-arg.arg-iterator.rest) ≡ x ++ command_key (args_of c.args.s.now c.next.new.self.rest)
pieces c x e = rw e (laws.key-more _ _ _ _ (this c))

pub loop-arg-init : goal.loop-arg-init
loop-arg-init c =
    let e = c.args_iter-arg-items.ensures in
    rw c.into_iter-arg-iterator.ensures.into_iter_gives (rw e.1 (e.0, c.requires, omega arith, refl))

pub own_bytes-text-requires : goal.own_bytes-text-requires
own_bytes-text-requires c = (this (goal.at.own_bytes-text-requires c).In-Some).inside

pub returns-then-text-t : goal.returns-then-text-t
returns-then-text-t c =
    let v = c.loop-arg.invariant in
    sym (v.3 ∙ laws.same-long _ _ c.own_bytes-text.result.now _ _ (pieces (goal.at.returns-then-text-t c).In-Some _ c.own_bytes-text.ensures) v.2 (omega arith))

pub returns-then-not-same_at : goal.returns-then-not-same_at
returns-then-not-same_at c =
    let v = c.loop-arg.invariant in
    sym (v.3 ∙ laws.same-no _ _ _ _ _ (pieces (goal.at.returns-then-not-same_at c).In-Some _ c.own_bytes-text.ensures) v.2 (omega arith)
    (sym c.same_at.ensures ∙ c.if-not-same_at.true))

pub loop-arg-preserved : goal.loop-arg-preserved
loop-arg-preserved c =
    let v = c.loop-arg.invariant in
    let d = v.2 in (
      ap (λ x. x.now) c.in-Some.ensures.steps.0 ∙ v.0,
      (this (goal.at.loop-arg-preserved c).In-Some).here,
      omega arith,
      v.3 ∙ laws.same-yes _ _ _ _ _ (pieces (goal.at.loop-arg-preserved c).In-Some _ c.own_bytes-text.ensures) d (omega arith)
          (sym c.same_at.ensures ∙ c.if-not-same_at.false),
    )

pub returns : goal.returns
returns c =
    let v = c.loop-arg.invariant in
    let z = iter-done _ _ v.0 _ _ v.1 c.in-None.ensures.steps.1 in
    sym (v.3 ∙ ap (same _) (laws.key-none _ _ z) ∙ laws.same-nil _ _ v.2)
