-- `cursor::bytes_in` meets its contract. Assumes nothing.
use Rattle.buffer.specs.Part.{part}
use borrow.Author.Rules.{rules}
use Rattle.cursor.proofs.bytes_in.Goals as goal

pub returns : goal.returns
unfolding part
returns c = search rules
