-- `caching::invalidate_counting` meets its contract: counts add up. Assumes nothing.
use Rattle.book.specs.Book.{invalidate}
use Rattle.single_calls.specs.Single.{single_call}
use Rattle.caching.proofs.More.{single_more}
use Rattle.caching.proofs.Adds.{added-as}
use Rattle.caching.proofs.invalidate_counting.Goals as goal

pub returns : goal.returns
returns c =
    let a = c.args in
    λ was next w.
    added-as a.arena.now _ was w next _ c.none_yet.ensures
    (single_call a.cache_config.size a.cache_config.mode a.cache_config.ttl (invalidate a.key.now))
    (λ lent h. single_more lent a.cache_config.size a.cache_config.mode a.cache_config.ttl (invalidate a.key.now) h) _ (c.invalidate.ensures next) _
    c.comes_to.ensures
