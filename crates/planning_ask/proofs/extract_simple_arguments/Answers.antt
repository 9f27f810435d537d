-- `planning_ask::extract_simple_arguments` meets its contract. Assumes nothing.
use mathlib.Core.Path.{ap, ◌∙◌}
use native.Mathlib.Omega.{arith}
use Rattle.cursor.specs.Steps.{Stepped, in_start, iter-next, iter-done}
use Rattle.planning_ask.specs.Simple as laws
use Rattle.planning_ask.proofs.extract_simple_arguments.Goals as goal
use Rattle.planning_ask.proofs.extract_simple_arguments.Goals.{In-Some}

-- the argument that comes
this : (c : In-Some) → Stepped c.args.bytes.now c.loop-arg.arg-iterator.rest c.in-Some.arg c.next.new.self.rest
this c = iter-next _ _ c.loop-arg.invariant.0 _ _ c.loop-arg.invariant.1.here _ c.in-Some.ensures.steps.1

pub loop-arg-init : goal.loop-arg-init
loop-arg-init c =
    let e = c.args_iter-arg-items.ensures in
    rw c.into_iter-arg-iterator.ensures.into_iter_gives (rw e.1 (e.0, laws.found-start _ _ c.requires))

pub with_argument-found-requires : goal.with_argument-found-requires
with_argument-found-requires c =
    let i = in_start _ _ _ (this (goal.at.with_argument-found-requires c).In-Some).here in
    let e = (this (goal.at.with_argument-found-requires c).In-Some).ends in
    let b = c.loop-arg.invariant.1.before in
    omega arith

pub loop-arg-preserved : goal.loop-arg-preserved
loop-arg-preserved c =
    let v = c.loop-arg.invariant in
    rw c.with_argument-found.ensures (
      ap (λ x. x.now) c.in-Some.ensures.steps.0 ∙ v.0,
      laws.found-next _ _ _ _ _ _ (this (goal.at.loop-arg-preserved c).In-Some) v.1,
    )

pub returns : goal.returns
returns c =
    let v = c.loop-arg.invariant in
    laws.found-end _ _ _ _ (iter-done _ _ v.0 _ _ v.1.here c.in-None.ensures.steps.1) v.1
