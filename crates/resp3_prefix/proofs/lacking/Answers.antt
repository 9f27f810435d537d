-- `resp3_prefix::lacking` meets its contract. Assumes nothing.
use mathlib.Core.Path.{sym}
use Rattle.resp3_prefix.specs.Paths as paths
use Rattle.resp3_prefix.proofs.lacking.Goals as goal

pub returns-then-k-le-MAX_BYTES : goal.returns-then-k-le-MAX_BYTES
returns-then-k-le-MAX_BYTES c = sym (paths.lacking-yes _ c.if-k-le-MAX_BYTES.true)

pub returns-else-k-le-MAX_BYTES : goal.returns-else-k-le-MAX_BYTES
returns-else-k-le-MAX_BYTES c = sym (paths.lacking-no _ c.if-k-le-MAX_BYTES.false)
