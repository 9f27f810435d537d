-- `planning_ask::past_end` meets its contract. Assumes nothing.
use native.Mathlib.Omega.{arith}
use Rattle.planning_ask.specs.Reaching as laws
use Rattle.planning_ask.proofs.past_end.Goals as goal

pub returns-in-Named : goal.returns-in-Named
returns-in-Named c = rw c.in-Named.is (laws.past-test c.args.clock c.args.ttl (omega arith))
