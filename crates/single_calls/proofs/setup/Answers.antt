-- `single_calls::setup` meets its contract. Assumes nothing.
use Rattle.std.proofs.Common.{sym}
use Rattle.single_calls.proofs.Returns.{all-zero}
use Rattle.single_calls.proofs.setup.Goals as goal

pub returns-clause-bytes : goal.returns-clause-bytes
returns-clause-bytes c = rw (sym c.in_ok-check_config.ensures) (all-zero _ _ c.fill_zero.ensures)
