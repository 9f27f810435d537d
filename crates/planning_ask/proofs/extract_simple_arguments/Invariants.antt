-- `planning_ask::extract_simple_arguments` meets its contract. Assumes nothing.
use mathlib.Core.Path.{◌≡◌}
use Rattle.planning_ask.specs.Simple as laws
use Rattle.planning_ask.proofs.extract_simple_arguments.Given as goal

abbrev pub invariant-loop-arg : goal.invariant-loop-arg
invariant-loop-arg l = (l.arg-iterator.bytes.now ≡ l.bytes) × laws.Found l.bytes l.fn.k l.arg-iterator.rest l.found
