-- `caching_cmd::resolve` meets its contract. Assumes nothing.
use Rattle.caching_cmd.specs.Laws as law
use Rattle.std.proofs.Common.{sym}
use Rattle.std.proofs.lemmas.Result.{err_from_is_err_and}
use Rattle.sharded_lru.specs.Admit.{enter}
use Rattle.caching_cmd.proofs.resolve.Goals as goal

pub resolve_admitted-requires : goal.resolve_admitted-requires
resolve_admitted-requires c = enter _ _ _ _ _ (sym c.in_ok-g.ensures)

pub returns-in_err-g : goal.returns-in_err-g
returns-in_err-g c counts next =
    let p = err_from_is_err_and c.from_residual.result c.from_residual.ensures.1 in
    rw (p.1, p.2)
    (law.refused-comes _ _ _ _ _ _ _ _ (record { arena = c.args.arena.now; counts = counts; next = next }) _ (sym c.in_err-g.ensures))

pub returns : goal.returns
returns c counts next =
    law.admitted-comes _ _ _ _ _ _ _ _ _ _ _ _ c.resolve_admitted.result (sym c.in_ok-g.ensures) c.resolve_admitted.ensures
