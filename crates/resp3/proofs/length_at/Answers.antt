use Rattle.resp3.specs.Ends.{length_at}
use Rattle.resp3.proofs.length_at.Goals as goal

pub returns : goal.returns
unfolding length_at
returns c = c.read_num.ensures
