-- `caching::push_call::push_counting` meets its contract: counts add up. Assumes nothing.
use Rattle.push.specs.Push.{push_call}
use Rattle.caching.proofs.More.{push-more}
use Rattle.caching.proofs.Adds.{added-as}
use Rattle.caching.proofs.push_call.push_counting.Goals as goal

pub returns : goal.returns
returns c =
    let a = c.args in
    λ was next w.
    added-as a.arena.now _ was w next _ c.none_yet.ensures (push_call a.cache_config.size a.cache_config.mode a.cache_config.ttl a.bytes.now)
    (λ lent h. push-more lent a.cache_config.size a.cache_config.mode a.cache_config.ttl a.bytes.now h) _ (c.handle_push.ensures next) _ c.comes_to.ensures
