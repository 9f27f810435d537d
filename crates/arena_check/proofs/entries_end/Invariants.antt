-- `arena_check::entries_end` meets its contract. The loop's invariant: the entries walked so far. Assumes nothing.
use Rattle.resp3.specs.Ends.{is_value}
use Rattle.arena_check.specs.Check.{entry_next, entry_ok}
use Rattle.arena_check.proofs.Walks.{Walked}
use Rattle.arena_check.proofs.entries_end.Given as goal

abbrev pub invariant-loop : goal.invariant-loop
invariant-loop l = Walked (entry_next l.s) (entry_ok is_value l.s l.end) l.end l.first l.n l.at l.counter
