-- `resolving_store::keep` meets its contract. Assumes nothing.
use native.Mathlib.Omega.{arith}
use Rattle.resolving_store.specs.Laws as law
use Rattle.resolving_store.proofs.keep.Goals as goal

pub returns-in_default : goal.returns-in_default
returns-in_default c =
    let x = c.args in
    rw (law.stores-nothing x.plan.now x.list.now x.next c.in_default.not-Keep) (law.stores-none _ _ _, omega arith, c.requires.3)

pub store_one-requires : goal.store_one-requires
store_one-requires c =
    let p = rw c.in-Keep.is at c.requires in
    (p.0, p.1.2, p.1.0, p.1.1, p.2.0, p.3)

pub returns : goal.returns
returns c = rw c.in-Keep.is c.store_one.ensures
