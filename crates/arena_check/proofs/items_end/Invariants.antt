-- `arena_check::items_end` meets its contract. The loop's invariant: the items walked so far. Assumes nothing.
use Rattle.resp3.specs.Ends.{is_value}
use Rattle.arena_check.specs.Check.{item_next, item_ok}
use Rattle.arena_check.specs.Home.{home_in}
use Rattle.arena_check.proofs.Walks.{Walked}
use Rattle.arena_check.proofs.items_end.Given as goal

abbrev pub invariant-loop : goal.invariant-loop
invariant-loop l = Walked (item_next l.s) (item_ok is_value (home_in l.shards) l.s l.shard l.end) l.end 16 l.n l.at l.counter
