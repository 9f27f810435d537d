-- `single_calls::lookup` meets its contract. Assumes nothing.
use mathlib.Core.Path.{sym, ◌∙◌}
use Rattle.sharded_lru.specs.Admit.{admits, enter}
use Rattle.single_calls.specs.AnswerLaws.{not-admitted-cause}
use Rattle.single_calls.proofs.Ways.{not-admitted, is-admitted, place-admitted, no_place, lookup-refused}
use Rattle.single_calls.proofs.lookup.Goals as goal

pub lookup_admitted-requires : goal.lookup_admitted-requires
lookup_admitted-requires c = enter _ _ _ _ _ (sym c.admit.ensures ∙ c.in-Ok.is)

pub returns-in-Err : goal.returns-in-Err
returns-in-Err c next =
    let e = sym c.admit.ensures ∙ c.in-Err.is in
    let r = not-admitted _ _ _ _ _ _ _ next e in
    lookup-refused _ _ (not-admitted-cause _ _ _ _ _ e) _ _ _ _ r (no_place _ _ _ _ _ _ _ _ _ _ r)

pub returns-in-Ok : goal.returns-in-Ok
returns-in-Ok c next =
    let w = admits _ _ _ _ _
    (sym c.admit.ensures ∙ c.in-Ok.is) in
    rw (is-admitted _ _ _ _ _ _ _ next w, place-admitted _ _ _ _ _ _ _ _ _ _ next w) (c.lookup_admitted.ensures _ next w.lent)
