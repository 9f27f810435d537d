-- `key_filter::may_hold` meets its contract: one law for each return. Assumes nothing.
use native.Mathlib.Omega.{arith}
use Rattle.key_filter.proofs.Paths.{told-past, told-bit}
use Rattle.key_filter.proofs.may_hold.Goals as goal

pub returns-then-seen-at : goal.returns-then-seen-at
returns-then-seen-at c = told-past _ _ _ c.bit_of-bit.ensures.0 (omega arith)

pub returns : goal.returns
returns c = told-bit _ _ _ c.bit_of-bit.ensures.0 (omega arith)
