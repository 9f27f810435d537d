-- `cache_manager::plan_filtered` meets its contract: the filter was made for the arena. Assumes nothing.
use Rattle.cache_manager.proofs.plan_filtered.Goals as goal

pub plan_seen-requires : goal.plan_seen-requires
plan_seen-requires c =
    let p = c.requires in
    (record { arena = p.0; filters = c.fill.ensures }, p.1, p.2)

pub returns : goal.returns
returns c = c.plan_seen.ensures
