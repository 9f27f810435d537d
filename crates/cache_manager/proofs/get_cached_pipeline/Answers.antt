-- `cache_manager::get_cached_pipeline` meets its contract. Assumes nothing.
use mathlib.Core.Path.{sym, ap, ◌∙◌}
use Rattle.sharded_lru.specs.Admit.{admits, enter}
use Rattle.statistics.specs.OfBook.{counts_of}
use Rattle.call_entry.specs.Entered.{holding}
use Rattle.cache_manager.specs.Pipeline.{returned_of}
use Rattle.cache_manager.specs.Records as laws
use Rattle.cache_manager.proofs.get_cached_pipeline.Goals as goal

pub plan_admitted-requires : goal.plan_admitted-requires
plan_admitted-requires c =
    let a = c.args in
    enter a.cache_config.size a.cache_config.mode a.cache_config.ttl a.arena.now _
    (sym c.admit.ensures ∙ c.in-Ok.is)

pub returns-in-Err : goal.returns-in-Err
returns-in-Err c =
    λ next. let a = c.args in
    let z = sym c.admit.ensures ∙ c.in-Err.is in
    laws.leaves_all a.when.clock a.when.epoch a.bytes.now a.plan.now a.send.now a.arena.now a.counts next _ _ _
    (laws.call-refused a.cache_config.size a.cache_config.mode a.cache_config.ttl a.when.clock a.when.epoch a.bytes.now a.plan.now a.send.now
    (holding a.arena.now (counts_of a.counts) next) _ z)
    (ap returned_of c.refused.ensures.0 ∙ laws.refused-returned a.cache_config.size a.cache_config.mode a.cache_config.ttl a.when.clock a.when.epoch a.bytes.now a.plan.now a.send.now
    (holding a.arena.now (counts_of a.counts) next) _ z) c.refused.ensures.1

pub returns-in-Ok : goal.returns-in-Ok
returns-in-Ok c =
    λ next. let a = c.args in
    let d = admits a.cache_config.size a.cache_config.mode a.cache_config.ttl a.arena.now _
    (sym c.admit.ensures
    ∙ c.in-Ok.is) in
    rw (laws.call-admitted a.cache_config.size a.cache_config.mode a.cache_config.ttl a.when.clock a.when.epoch a.bytes.now a.plan.now a.send.now
    (holding a.arena.now (counts_of a.counts) next) _ _ d.fine d.read)
    (c.plan_admitted.ensures _ next d.lent)
