-- `call_record::skip_end` meets its contract. Assumes nothing.
use mathlib.Core.Path.{sym}
use native.Mathlib.Omega.{arith}
use Rattle.format.specs.Skips as laws
use Rattle.call_record.proofs.skip_end.Goals as goal

pub returns-then-n-len : goal.returns-then-n-len
returns-then-n-len c = sym (laws.skip-in _ _ _ (omega arith))

pub returns-else-n-len : goal.returns-else-n-len
returns-else-n-len c = sym (laws.skip-out _ _ _ (omega arith))
