-- `cmd::write_arguments` meets its contract by its loop's invariant. Assumes nothing.
use mathlib.Core.Path.{ap, ◌∙◌}
use Rattle.buffer.specs.Copied as cop
use Rattle.cursor.specs.Steps.{Stepped, iter-next, iter-done}
use Rattle.cmd.specs.Laws as laws
use Rattle.cmd.proofs.write_arguments.Goals as goal
use Rattle.cmd.proofs.write_arguments.Goals.{In-Some}

-- the argument that comes
this : (c : In-Some) → Stepped c.args.s.now c.loop-arg.arg-iterator.rest c.in-Some.arg c.next.new.self.rest
this c = iter-next _ _ c.loop-arg.invariant.0 _ _ c.loop-arg.invariant.1 _ c.in-Some.ensures.steps.1

pub loop-arg-init : goal.loop-arg-init
loop-arg-init c =
    let e = c.args_iter-arg-items.ensures in
    rw c.into_iter-arg-iterator.ensures.into_iter_gives (rw e.1 (e.0, c.requires.0, cop.copied-start _ _ _ c.requires.1))

pub write_argument-next-requires : goal.write_argument-next-requires
write_argument-next-requires c =
    let w = this (goal.at.write_argument-next-requires c).In-Some in
    (w.inside, cop.copied-room _ _ _ _ _ _ _ _ (laws.sent-more _ _ _ _ _ w) c.loop-arg.invariant.2)

pub loop-arg-preserved : goal.loop-arg-preserved
loop-arg-preserved c =
    let w = this (goal.at.loop-arg-preserved c).In-Some in
    let v = c.loop-arg.invariant in
    let e = c.write_argument-next.ensures in
    (ap (λ x. x.now) c.in-Some.ensures.steps.0 ∙ v.0, w.here, cop.copied_next _ _ _ _ _ _ _ _ _ _ (laws.sent-more _ _ _ _ _ w) e.0 e.1 v.2)

pub returns : goal.returns
returns c =
    let v = c.loop-arg.invariant in
    let z = iter-done _ _ v.0 _ _ v.1 c.in-None.ensures.steps.1 in
    let n = laws.blobs-none c.args.s.now c.args.cursor _ c.loop-arg.arg-iterator.rest.at z in
    (cop.copied-ends _ _ _ _ _ _ n v.2, cop.copied-done _ _ _ _ _ _ n v.2)
