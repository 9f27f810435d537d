-- `single_calls::invalidate` meets its contract. Assumes nothing.
use mathlib.Core.Path.{sym, ◌∙◌}
use Rattle.sharded_lru.specs.Admit.{admits, enter}
use Rattle.single_calls.specs.AnswerLaws.{not-admitted-cause}
use Rattle.single_calls.proofs.Ways.{not-admitted, is-admitted, invalidation-refused}
use Rattle.single_calls.proofs.invalidate.Goals as goal

pub invalidate_admitted-requires : goal.invalidate_admitted-requires
invalidate_admitted-requires c = enter _ _ _ _ _ (sym c.admit.ensures ∙ c.in-Ok.is)

pub returns-in-Err : goal.returns-in-Err
returns-in-Err c next =
    let e = sym c.admit.ensures ∙ c.in-Err.is in
    invalidation-refused _ _ (not-admitted-cause _ _ _ _ _ e) _ _ _ (not-admitted _ _ _ _ _ _ _ next e)

pub returns-in-Ok : goal.returns-in-Ok
returns-in-Ok c next =
    let w = admits _ _ _ _ _
    (sym c.admit.ensures ∙ c.in-Ok.is) in
    rw (is-admitted _ _ _ _ _ _ _ next w) (c.invalidate_admitted.ensures _ next w.lent)
