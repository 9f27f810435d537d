-- `single_calls::store` meets its contract. Assumes nothing.
use Rattle.std.proofs.Common.{sym}
use Rattle.std.proofs.lemmas.Result.{err_from_is_err_and}
use Rattle.sharded_lru.specs.Admit.{admits, enter}
use Rattle.single_calls.specs.AnswerLaws.{not-admitted-cause}
use Rattle.single_calls.proofs.Ways.{not-admitted, is-admitted, left-refused}
use Rattle.single_calls.proofs.store.Goals as goal

pub store_admitted-requires : goal.store_admitted-requires
store_admitted-requires c = enter _ _ _ _ _ (sym c.in_ok-g.ensures)

pub returns-in_err-g : goal.returns-in_err-g
returns-in_err-g c lent next =
    let p = err_from_is_err_and c.from_residual.result c.from_residual.ensures.1 in
    let e = sym c.in_err-g.ensures in
    rw (p.1, p.2) (left-refused _ _ (not-admitted-cause _ _ _ _ _ e) _ _ _ (not-admitted _ _ _ _ _ _ lent next e))

pub returns : goal.returns
returns c lent next =
    let w = admits _ _ _ _ _ (sym c.in_ok-g.ensures) in
    rw (is-admitted _ _ _ _ _ _ lent next w) (c.store_admitted.ensures _ lent next w.lent)
