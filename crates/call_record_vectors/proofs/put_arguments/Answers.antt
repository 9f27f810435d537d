-- `call_record_vectors::put_arguments` is safe by its loop's invariant. Assumes nothing.
use mathlib.Core.Path.{ap, ◌∙◌}
use Rattle.cursor.specs.Steps.{iter-next}
use Rattle.call_record_vectors.proofs.put_arguments.Goals as goal

pub loop-arg-init : goal.loop-arg-init
loop-arg-init g c =
    let e = c.args_iter-arg-items.ensures in
    rw c.into_iter-arg-iterator.ensures.into_iter_gives (rw e.1 (e.0, c.requires))

pub put_range-requires : goal.put_range-requires
put_range-requires g c =
    let v = c.loop-arg.invariant in
    let w = iter-next _ _ v.0 _ _ v.1 _ c.in-Some.ensures.steps.1 in
    rw c.in-Simple.is at w.inside

pub loop-arg-preserved : goal.loop-arg-preserved
loop-arg-preserved g c =
    let v = c.loop-arg.invariant in
    (ap (λ x. x.now) c.in-Some.ensures.steps.0 ∙ v.0, (iter-next _ _ v.0 _ _ v.1 _ c.in-Some.ensures.steps.1).here)
