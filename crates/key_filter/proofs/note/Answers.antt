-- `key_filter::note` meets its contract: one law for each return. Assumes nothing.
use native.Mathlib.Omega.{arith}
use Rattle.key_filter.proofs.Paths.{noted-bit, noted-past}
use mathlib.Core.Path.{refl}
use Rattle.key_filter.proofs.note.Goals as goal

pub returns-then-at-seen : goal.returns-then-at-seen
returns-then-at-seen c = noted-bit _ _ _ c.bit_of-bit.ensures.0 _ refl

pub returns-else-at-seen : goal.returns-else-at-seen
returns-else-at-seen c = noted-past _ _ _ c.bit_of-bit.ensures.0 (omega arith)
