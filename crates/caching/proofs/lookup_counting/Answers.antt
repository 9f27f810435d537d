-- `caching::lookup_counting` meets its contract: counts add up, and the value stands at its place. Assumes nothing.
use Rattle.std.proofs.Common.{◌∙◌}
use Rattle.book.specs.Book.{Counts, lookup}
use Rattle.single_calls.specs.Single.{single_call}
use Rattle.single_calls.proofs.PlaceLaws.{place-alike}
use Rattle.statistics.specs.OfBook.{counts_of}
use Rattle.caching.specs.Exported.{start_of}
use Rattle.caching.proofs.Parts.{start-of, part-there, part_at}
use Rattle.caching.proofs.More.{single_more}
use Rattle.caching.proofs.Adds.{looked-as}
use Rattle.caching.proofs.lookup_counting.Goals as goal

pub served-requires : goal.served-requires
served-requires c = (c.lookup-r.ensures 0).within

pub returns-clause-given : goal.returns-clause-given
returns-clause-given c =
    let a = c.args in
    let k = c.lookup-r in
    λ lent next fit. looked-as a.arena.now k.new.arena lent fit next _ c.none_yet-none.ensures
    (single_call a.cache_config.size a.cache_config.mode a.cache_config.ttl (lookup a.key.now a.command.now a.when.clock a.when.epoch))
    (λ counts h. single_more counts a.cache_config.size a.cache_config.mode a.cache_config.ttl (lookup a.key.now a.command.now a.when.clock a.when.epoch) h) _ _
    (k.ensures next) _ c.lookup_return.ensures _ c.served.ensures.bytes

pub returns-clause-is_part : goal.returns-clause-is_part
returns-clause-is_part c =
    let a = c.args in
    let k = c.lookup-r in
    let f = k.result.found in
    let u = k.new.arena in
    let was : Counts = counts_of c.none_yet-none.result in
    let v = c.served.ensures in
    let w = part-there a.arena.now u _ f v.bytes k.auto.arena (k.ensures 0).within in
    λ lent next.
    let m = part_at (start_of f) _ _ _ _ u _
    (start-of f ∙ (k.ensures next).place
    ∙ place-alike a.cache_config.size a.cache_config.mode a.cache_config.ttl a.key.now a.command.now a.when.clock a.when.epoch a.arena.now was lent next next)
    v.place.1 w.0 w.1 in
    (v.place.0, m.0, m.1, m.2)
