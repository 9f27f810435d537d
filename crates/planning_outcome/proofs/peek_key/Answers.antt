-- `planning_outcome::peek_key` meets its contract. Assumes nothing.
use Rattle.command_key.specs.Key.{KeyIn}
use Rattle.sharded_lru.specs.Lent.{setup_now}
use Rattle.planning_outcome.specs.Places as laws
use Rattle.planning_outcome.proofs.peek_key.Goals as goal

pub peek-requires : goal.peek-requires
unfolding KeyIn
peek-requires c = (
  c.requires.3,
  (
    c.requires.1,
    c.requires.0.inside,
    c.requires.2,
  ),
)

pub returns : goal.returns
returns c = λ rows o.
    let a = c.args in
    laws.part-place (setup_now a.g) rows a.when.clock a.when.epoch a.bytes.now a.arena.now a.v a.key c.peek.result
    c.requires.0 (rw c.bytes_in-text.ensures at (c.peek.ensures rows o))
