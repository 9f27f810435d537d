-- `opt_in_len` meets its contract. Assumes nothing.
use Rattle.planning_send_len.specs.Lengths as lengths
use Rattle.planning_send_len.proofs.opt_in_len.Goals as goal

pub returns-in-All : goal.returns-in-All
returns-in-All c = lengths.caching-none c.args.mode c.in-All.is

pub returns-in-OptIn : goal.returns-in-OptIn
returns-in-OptIn c = lengths.caching-length c.args.mode c.in-OptIn.is
