-- `cursor::commands_of` meets its contract. Assumes nothing.
use Rattle.cursor.proofs.commands_of.Goals as goal

pub returns : goal.returns
returns c = λ i. record { at = 8; left = c.read_u16.ensures i }
