-- `planning_ask::next_key` meets its contract. Assumes nothing.
use Rattle.planning_ask.specs.Simple as laws
use Rattle.planning_ask.proofs.next_key.Given as goal

abbrev pub invariant-loop-key : goal.invariant-loop-key
invariant-loop-key l = laws.Ahead l.bytes l.fn.k l.k

abbrev pub decreases-loop-key : goal.decreases-loop-key
decreases-loop-key l = l.k.left
