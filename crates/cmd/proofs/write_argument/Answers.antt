-- `cmd::write_argument` meets its contract. Assumes nothing.
use Rattle.cmd.proofs.write_argument.Goals as goal
