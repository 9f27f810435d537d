-- `planning_ask::takes_part` meets its contract. Assumes nothing.
use Rattle.planning_ask.proofs.takes_part.Goals as goal

pub returns-in-OptIn : goal.returns-in-OptIn
returns-in-OptIn c = rw c.in-OptIn.is
