-- `cursor::is_transaction` meets its contract. Assumes nothing.
use native.Mathlib.Nat.{div-one}
use lib.ListN.{get_or}
use Rattle.cursor.specs.At.{record_at}
use Rattle.cursor.proofs.is_transaction.Goals as goal

pub returns : goal.returns
unfolding record_at
returns c = rw (div-one (get_or c.args.bytes.now 5 0))
