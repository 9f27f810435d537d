-- `caching_cmd::command_count` meets its contract. Assumes nothing.
use Rattle.plan.specs.Decode.{read_plan}
use Rattle.caching_cmd.proofs.command_count.Goals as goal

pub returns : goal.returns
unfolding read_plan
returns c = c.read_u32.ensures
