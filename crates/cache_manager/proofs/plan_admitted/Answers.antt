-- `cache_manager::plan_admitted` meets its contract. Assumes nothing.
use mathlib.Core.Path.{refl, sym, ap, ◌∙◌}
use native.Mathlib.Omega.{arith}
use Rattle.statistics.specs.OfBook.{counts_of}
use Rattle.call_entry.specs.Entered.{holding}
use Rattle.cache_manager.specs.Pipeline.{returned_of}
use Rattle.cache_manager.specs.Records as laws
use Rattle.cache_manager.proofs.plan_admitted.Goals as goal

pub returns-then-bytes-gt-MAX_BYTES : goal.returns-then-bytes-gt-MAX_BYTES
returns-then-bytes-gt-MAX_BYTES c =
    λ rows next o. let a = c.args in
    laws.leaves_all a.when.clock a.when.epoch a.bytes.now a.plan.now a.send.now a.arena.now a.counts next _ _ _
    (laws.too_long_lem a.when.clock a.when.epoch a.bytes.now a.plan.now a.send.now (holding a.arena.now (counts_of a.counts) next)
    a.g rows
    c.if-bytes-gt-MAX_BYTES.true) (ap returned_of c.refused.ensures.0) c.refused.ensures.1

pub plan_record-requires : goal.plan_record-requires
plan_record-requires c = (
  c.requires,
  omega arith,
  sym
      c.check.ensures ∙ c.in-Ok.is,
)

pub returns-in-Err : goal.returns-in-Err
returns-in-Err c =
    λ rows next o. let a = c.args in
    laws.leaves_all a.when.clock a.when.epoch a.bytes.now a.plan.now a.send.now a.arena.now a.counts next _ _ _
    (laws.bad-record a.when.clock a.when.epoch a.bytes.now a.plan.now a.send.now (holding a.arena.now (counts_of a.counts) next)
    a.g rows
    (omega arith) _ (sym c.check.ensures ∙ c.in-Err.is)) (ap returned_of c.refused-in-Err.ensures.0) c.refused-in-Err.ensures.1

pub returns-in-Ok : goal.returns-in-Ok
returns-in-Ok c =
    λ rows next o. let a = c.args in
    rw (laws.good-record a.when.clock a.when.epoch a.bytes.now a.plan.now a.send.now
    (holding a.arena.now (counts_of a.counts) next) a.g rows
    (omega arith) (sym c.check.ensures
    ∙ c.in-Ok.is))
    (c.plan_record.ensures rows next o)
