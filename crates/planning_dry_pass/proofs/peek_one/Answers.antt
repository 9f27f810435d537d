-- `planning_dry_pass::peek_one` meets its contract. Assumes nothing.
use Rattle.command_key.specs.Key.{KeyIn}
use Rattle.sharded_lru.specs.Lent.{setup_now}
use Rattle.planning_outcome.specs.Places.{whole-place}
use Rattle.planning_dry_pass.proofs.peek_one.Goals as goal

pub peek-requires : goal.peek-requires
unfolding KeyIn
peek-requires c = (c.requires.2, c.requires.0)

pub returns : goal.returns
returns c =
    let a = c.args in
    λ rows o.
    whole-place (setup_now a.g) rows a.when.clock a.when.epoch a.bytes.now a.arena.now a.head a.key c.peek.result
    (rw c.bytes_in-text.ensures at (c.peek.ensures rows o))
