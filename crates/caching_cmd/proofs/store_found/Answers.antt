-- `caching_cmd::store_found` meets its contract. Assumes nothing.
use Rattle.caching_cmd.proofs.Listed as listed
use Rattle.resolving_passes.specs.declared.Dry.TheVariants.{Fits, Short, Wrong}
use Rattle.caching_cmd.proofs.store_found.Goals as goal

pub returns-in-Wrong : goal.returns-in-Wrong
returns-in-Wrong c =
    let x = c.args in
    listed.stored_same x.g x.when.epoch x.plan.now x.list.now x.start x.when.clock _ _ _
    x.found Wrong c.in-Wrong.is c.store_if.ensures

pub returns-in-Short : goal.returns-in-Short
returns-in-Short c =
    let x = c.args in
    listed.stored_same x.g x.when.epoch x.plan.now x.list.now x.start x.when.clock _ _ _
    x.found Short c.in-Short.is c.store_if-in-Short.ensures

pub returns-in-Fits : goal.returns-in-Fits
returns-in-Fits c =
    let x = c.args in
    listed.stored_same x.g x.when.epoch x.plan.now x.list.now x.start x.when.clock _ _ _
    x.found Fits c.in-Fits.is c.store_if-in-Fits.ensures
