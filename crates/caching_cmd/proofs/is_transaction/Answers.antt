-- `caching_cmd::is_transaction` meets its contract. Assumes nothing.
use mathlib.Core.Path.{refl}
use Rattle.plan.specs.Decode.{read_plan}
use Rattle.caching_cmd.proofs.is_transaction.Goals as goal

pub returns : goal.returns
unfolding read_plan
returns c = refl
