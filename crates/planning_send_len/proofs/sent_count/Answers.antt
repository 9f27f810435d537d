-- `sent_count` meets its contract, case by case. Assumes nothing.
use mathlib.Core.Path.{sym, ap, subst, ◌∙◌}
use native.Mathlib.Omega.{arith}
use Rattle.planning_outcome.specs.declared.CachingResult.{CachingResult}
use Rattle.planning_outcome.specs.declared.CachingResult.TheVariants.{Item}
use Rattle.planning_send_len.specs.Counts as counts
use Rattle.planning_send_len.proofs.sent_count.Goals as goal

pub packs_count-requires : goal.packs_count-requires
packs_count-requires c =
    subst (λ (z : CachingResult). counts.ResultFew z) (c.in-Item.is ∙ ap Item c.in-NotCached.is)
    c.requires

pub overflow_add-result : goal.overflow_add-result
overflow_add-result c =
    let m = counts.opt-few c.args.mode in
    let x = c.opt_in_count.ensures in
    let y = c.packs_count.ensures.1 in
    omega arith

pub returns-in-Ignored : goal.returns-in-Ignored
returns-in-Ignored c = (ap (counts.count_with c.args.mode) (sym c.in-Ignored.is), omega arith)

pub returns-in-Cached : goal.returns-in-Cached
returns-in-Cached c = (
  ap (counts.count_with c.args.mode)
      (sym (c.in-Item.is ∙ ap Item c.in-Cached.is)),
  omega arith,
)

pub returns-in-NotCached : goal.returns-in-NotCached
returns-in-NotCached c =
    let m = counts.opt-few c.args.mode in
    let x = c.opt_in_count.ensures in
    let y = c.packs_count.ensures.1 in
    let z = c.packs_count.ensures.0 in
    let e = ap (counts.count_with c.args.mode)
    (sym (c.in-Item.is ∙ ap Item c.in-NotCached.is)) in
    (omega arith, omega arith)

pub returns-in-NotCacheable : goal.returns-in-NotCacheable
returns-in-NotCacheable c = (
  ap (counts.count_with c.args.mode)
      (sym (c.in-Item.is ∙ ap Item c.in-NotCacheable.is)),
  omega arith,
)
