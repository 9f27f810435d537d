-- `caching::plan_call::plan_counting` meets its contract: counts add up. Assumes nothing.
use Rattle.arena.specs.Held.{Held}
use Rattle.cache_manager.specs.Pipeline.{Left, plan_call}
use Rattle.caching.proofs.More.{plan-more}
use Rattle.caching.proofs.Adds.{planned-as}
use Rattle.caching.proofs.plan_call.plan_counting.Goals as goal

pub returns : goal.returns
returns c =
    let a = c.args in
    let call : Held → Left = plan_call a.cache_config.size a.cache_config.mode a.cache_config.ttl a.when.clock a.when.epoch a.bytes.now a.plan.now a.send.now in
    λ was next w.
    planned-as a.arena.now _ was w next _ c.none_yet-none.ensures _ _ call
    (λ lent h. plan-more lent a.cache_config.size a.cache_config.mode a.cache_config.ttl a.when.clock a.when.epoch a.bytes.now a.plan.now a.send.now h) _
    (c.get_cached_pipeline-r.ensures next) _ c.plan_return.ensures
