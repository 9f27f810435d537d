-- `cache_manager::is_short` meets its contract. Assumes nothing.
use mathlib.Core.Path.{ap₂, ◌∙◌}
use mathlib.Core.Bool.{◌||◌}
use lib.ListN.{length}
use Rattle.cursor.specs.At.{commands_at}
use Rattle.sharded_lru.specs.Lent.{setup_now}
use Rattle.planning_outcome.specs.Sizes.{all_nodes, all_sent}
use Rattle.room.specs.Room.{spent}
use Rattle.std.specs.Prelude.{Option, is_none, ℕ}
use Rattle.cache_manager.specs.Passed as laws
use Rattle.planning.specs.Ask.{ask}
use Rattle.cache_manager.proofs.is_short.Goals as goal

pub returns : goal.returns
returns c = λ rows o.
    let a = c.args in
    let C = commands_at a.bytes.now a.k.left a.k.at in
    c.dry_pass.ensures rows o
    ∙ ap₂ (λ (x : Option ℕ) (y : Option ℕ). is_none (spent x (length (all_nodes (setup_now a.g) rows a.when.clock a.when.epoch
    (ask a.g a.when.clock) C))) || is_none (spent y
    (length (all_sent (setup_now a.g) rows a.when.clock a.when.epoch (ask a.g a.when.clock) a.g.mode C))))
    c.spend-p.ensures c.spend-q.ensures
    ∙ ap₂ ◌||◌ (laws.plan-short (setup_now a.g) rows a.when.clock a.when.epoch a.g a.transaction C a.plan)
    (laws.send-short (setup_now a.g) rows a.when.clock a.when.epoch a.g a.transaction C a.send _ c.wrap_len.ensures)
