-- `caching_cmd::store_if` meets its contract. Assumes nothing.
use mathlib.Core.Path.{ap}
use mathlib.Core.Bool.{not}
use Rattle.caching_cmd.proofs.Listed as listed
use Rattle.caching_cmd.proofs.store_if.Goals as goal

pub returns-then-not-kept : goal.returns-then-not-kept
returns-then-not-kept c =
    let x = c.args in
    listed.stored-not x.g x.when.epoch x.plan.now x.list.now x.start x.when.clock x.kept _ (ap not c.if-not-kept.true)

pub returns : goal.returns
returns c =
    let x = c.args in
    listed.stored-all x.g x.when.epoch x.plan.now x.list.now x.start x.when.clock x.kept _ _ _
    (ap not c.if-not-kept.false) c.store_pass.ensures
