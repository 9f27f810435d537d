-- `decimal::countdigits` meets its contract: on the way up v has as many digits as the range that is looked at or more, on the way down as many or fewer. Assumes
-- nothing.
use Prim.Native.Nat.{◌≤◌, ◌<◌}
use lib.ListN.{length}
use Rattle.decimal.specs.Digits.{digits}
use Rattle.decimal.proofs.countdigits.Given as goal

abbrev pub invariant-loop-n : goal.invariant-loop-n
invariant-loop-n l = l.n ≤ length (digits l.v)

abbrev pub invariant-loop-n-2 : goal.invariant-loop-n-2
invariant-loop-n-2 l = (4 < length (digits l.v)) × (length (digits l.v) ≤ l.n) × (l.n ≤ 20)

abbrev pub decreases-loop-n-2 : goal.decreases-loop-n-2
decreases-loop-n-2 l = l.n
