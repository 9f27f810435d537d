-- `cmd::sent_len` meets its contract. Assumes nothing.
use Rattle.cmd.proofs.sent_len.Goals as goal
