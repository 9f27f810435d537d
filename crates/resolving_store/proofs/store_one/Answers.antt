-- `resolving_store::store_one` meets its contract. Assumes nothing.
use mathlib.Core.Path.{ap}
use native.Mathlib.Omega.{arith}
use Rattle.std.specs.Prelude.{is_ok}
use Rattle.buffer.specs.Part.{part}
use Rattle.resolving_step.specs.Steps.{keeping}
use Rattle.resolving_store.specs.Laws as law
use Rattle.resolving_store.proofs.store_one.Goals as goal

pub insert-kept-requires : goal.insert-kept-requires
unfolding part
insert-kept-requires c =
    let p = c.requires in
    let i = law.insertable _ p.4 in
    (p.0, i.0, i.1, p.5)

pub returns-in-Ok : goal.returns-in-Ok
unfolding part
returns-in-Ok c =
    let x = c.args in
    let e = c.insert-kept.ensures in
    (law.stores-kept _ _ (keeping x.plan.now x.list.now x.m x.from x.to) _ _ _ (ap is_ok c.in-Ok.is) e.0, omega arith, e.1)

pub returns-in-Err : goal.returns-in-Err
unfolding part
returns-in-Err c =
    let x = c.args in
    let e = c.insert-kept.ensures in
    (law.stores-refused _ _ (keeping x.plan.now x.list.now x.m x.from x.to) _ _ _ (ap is_ok c.in-Err.is) e.0, omega arith, e.1)
