-- `trap_send::command_len` meets its contract. Assumes nothing.
use Rattle.trap_send.proofs.command_len.Goals as goal

pub returns : goal.returns
returns c = λ rows o. (c.size_of-size.ensures rows o).send
