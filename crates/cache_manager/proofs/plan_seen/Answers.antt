-- `cache_manager::plan_seen` meets its contract. Assumes nothing.
use mathlib.Core.Path.{refl, sym, ◌∙◌}
use Rattle.arena.specs.Held.{book_of}
use Rattle.statistics.specs.OfBook.{counts_of}
use Rattle.call_entry.specs.Entered.{holding}
use Rattle.cache_manager.specs.Fit.{fit}
use Rattle.cache_manager.specs.Records as laws
use Rattle.cache_manager.proofs.plan_seen.Goals as goal

pub commands_of-k-requires : goal.commands_of-k-requires
commands_of-k-requires c = (fit _ c.requires.2).room

pub any_late-requires : goal.any_late-requires
any_late-requires c =
    let w = c.requires in
    let a = c.args in
    laws.here a.when.clock a.when.epoch a.bytes.now a.plan.now a.send.now a.arena.now a.g _ a.counts c.commands_of-k.ensures
    (fit a.bytes.now w.2)

pub returns-then-any_late : goal.returns-then-any_late
returns-then-any_late c =
    λ rows next o. let w = c.requires in
    let a = c.args in
    laws.record-late a.when.clock a.when.epoch a.bytes.now a.plan.now a.send.now a.arena.now a.g _ a.counts
    c.commands_of-k.ensures (fit a.bytes.now w.2) rows next _
    (sym c.any_late.ensures ∙ c.if-any_late.true) c.refused.ensures

pub is_transaction-transaction-requires : goal.is_transaction-transaction-requires
is_transaction-transaction-requires c = (fit _ c.requires.2).room

pub is_short-requires : goal.is_short-requires
is_short-requires c =
    let w = c.requires in
    let a = c.args in (
      laws.ahead a.when.clock a.when.epoch a.bytes.now a.plan.now a.send.now a.arena.now a.g _ a.counts
          c.commands_of-k.ensures (fit a.bytes.now w.2)
          (sym c.any_late.ensures ∙ c.if-any_late.false),
      w.1,
      w.0,
    )

pub returns-then-is_short : goal.returns-then-is_short
returns-then-is_short c =
    λ rows next o. let w = c.requires in
    let a = c.args in
    laws.record-short a.when.clock a.when.epoch a.bytes.now a.plan.now a.send.now a.arena.now a.g _ a.counts
    c.commands_of-k.ensures (fit a.bytes.now w.2) rows next _ _
    c.is_transaction-transaction.ensures
    (sym c.any_late.ensures ∙ c.if-any_late.false)
    (sym (c.is_short.ensures rows o) ∙ c.if-is_short.true) c.refused-then-is_short.ensures

pub write_pipeline-requires : goal.write_pipeline-requires
write_pipeline-requires c =
    let w = c.requires in
    let a = c.args in (
      laws.ahead a.when.clock a.when.epoch a.bytes.now a.plan.now a.send.now a.arena.now a.g _ a.counts
          c.commands_of-k.ensures (fit a.bytes.now w.2)
          (sym c.any_late.ensures
          ∙ c.if-any_late.false),
      w.1,
      w.0,
      laws.few a.when.clock a.when.epoch a.bytes.now a.plan.now
          a.send.now a.arena.now a.g _ a.counts c.commands_of-k.ensures
          (fit a.bytes.now w.2),
      λ rows o. laws.not_short _ _ _ _
          (sym (c.is_short.ensures rows o) ∙ c.if-is_short.false),
    )

pub returns : goal.returns
returns c =
    λ rows next o. let w = c.requires in
    let a = c.args in
    laws.record-done a.when.clock a.when.epoch a.bytes.now a.plan.now a.send.now a.arena.now a.g _ a.counts
    c.commands_of-k.ensures
    (fit a.bytes.now w.2) rows next _ _
    c.is_transaction-transaction.ensures
    (sym c.any_late.ensures
    ∙ c.if-any_late.false)
    (sym (c.is_short.ensures rows o)
    ∙ c.if-is_short.false) _ _ _
    c.arena-1.given
    (c.write_pipeline.ensures (book_of rows (holding a.arena.now (counts_of a.counts) next))
    (record { rows = o; counts = refl }))
