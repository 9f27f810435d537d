-- `cache_manager::write_pipeline` meets its contract. Assumes nothing.
use mathlib.Core.Path.{refl, ap}
use native.Mathlib.Omega.{arith}
use Rattle.cursor.specs.At.{commands_at}
use Rattle.cache_manager.specs.Fit.{commands-count}
use Rattle.std.specs.Prelude.{Ok}
use Rattle.cache_manager.specs.Passed as laws
use Rattle.cache_manager.proofs.write_pipeline.Goals as goal

pub write_plan_head-to-requires : goal.write_plan_head-to-requires
write_plan_head-to-requires c =
    let w = c.requires in
    let a = c.args in
    laws.head-fits a.g a.when.clock a.when.epoch a.transaction (commands_at a.bytes.now a.k.left a.k.at) a.arena.now a.plan.now
    a.send.now w.4 w.2.arena

pub write_start-from-requires : goal.write_start-from-requires
write_start-from-requires c =
    let w = c.requires in
    let a = c.args in
    laws.start_fits a.g a.when.clock a.when.epoch a.transaction (commands_at a.bytes.now a.k.left a.k.at) a.arena.now
    a.plan.now
    a.send.now w.4 w.2.arena

pub plan_commands-y-requires : goal.plan_commands-y-requires
plan_commands-y-requires c =
    let w = c.requires in
    let a = c.args in
    let k = w.3 in (
      w.0,
      w.1,
      w.2,
      laws.pass-room a.g a.when.clock a.when.epoch a.transaction (commands_at a.bytes.now a.k.left a.k.at) a.arena.now
          a.plan.now a.send.now _ _ _ _ a.k.left a.counts (commands-count a.bytes.now a.k.left a.k.at)
          c.write_plan_head-to.ensures
          c.write_start-from.ensures w.4,
      omega arith,
    )

pub write_end-end-requires : goal.write_end-end-requires
write_end-end-requires c =
    let w = c.requires in
    let a = c.args in
    laws.end-room a.g a.when.clock a.when.epoch a.transaction (commands_at a.bytes.now a.k.left a.k.at) a.arena.now a.plan.now
    a.send.now _ _ _ _ a.k.left a.counts (commands-count a.bytes.now a.k.left a.k.at)
    c.write_plan_head-to.ensures
    c.write_start-from.ensures w.4 _ _ _ _
    c.plan_commands-y.ensures.0 w.2.arena

pub written_of-written-requires : goal.written_of-written-requires
written_of-written-requires c =
    let b = c.plan_commands-y.ensures.1 in
    let k = c.requires.3 in
    omega arith

pub returns : goal.returns
returns c =
    let w = c.requires in
    let a = c.args in
    laws.passed a.g a.when.clock a.when.epoch a.transaction (commands_at a.bytes.now a.k.left a.k.at) a.arena.now a.plan.now
    a.send.now _ _ _ _ a.k.left a.counts (commands-count a.bytes.now a.k.left a.k.at)
    c.write_plan_head-to.ensures
    c.write_start-from.ensures
    w.4 _ _ _ _ c.plan_commands-y.ensures.0 _ _ _
    c.write_end-end.ensures (ap Ok c.written_of-written.ensures) refl
