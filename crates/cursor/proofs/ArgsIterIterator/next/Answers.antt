-- `cursor::ArgsIter::next` meets its contract. Assumes nothing.
use mathlib.Core.Path.{sym, ◌∙◌}
use native.Mathlib.Omega.{arith}
use Rattle.cursor.specs.Steps.{stepped}
use Rattle.cursor.proofs.ArgsIterIterator.next.Goals as goal

pub returns-clause-goes : goal.returns-clause-goes
returns-clause-goes c =
    let w = stepped _ _ _ _ c.requires (sym c.next_arg.ensures ∙ c.in_ok-arg.was) in
    let n = w.count in
    record { on = λ f. (w.here, tt, omega arith); keeps = w.here; rests = λ f. tt }
