-- `cursor::args_end` meets its contract by its loop's invariant. Assumes nothing.
use mathlib.Core.Path.{sym, ◌∙◌}
use Rattle.cursor.specs.Steps as laws
use Rattle.cursor.proofs.args_end.Goals as goal

pub loop-rest-preserved : goal.loop-rest-preserved
loop-rest-preserved c =
    let w = laws.stepped _ _ _ c.in-Some.rest c.loop-rest.invariant.0 (sym c.next_arg.ensures ∙ c.in-Some.is) in
    (w.here, c.loop-rest.invariant.1 ∙ w.last)

pub returns : goal.returns
returns c =
    let z = laws.stopped _ _ c.loop-rest.invariant.0 (sym c.next_arg.ensures ∙ c.in_default.is) in
    sym (c.loop-rest.invariant.1 ∙ laws.end_none _ _ _ z)
