-- `decimal::countdigits` meets its contract: on the way up v has as many digits as the range that is looked at or more, on the way down as many or fewer. Assumes
-- nothing.
use native.Mathlib.Omega.{arith}
use Rattle.decimal.specs.DigitLaws.{count-pos, count-max}
use Rattle.decimal.proofs.countdigits.Goals as goal

pub loop-n-init : goal.loop-n-init
loop-n-init c = count-pos _

pub loop-n-2-init : goal.loop-n-2-init
loop-n-2-init c = (omega arith, count-max _ (omega arith), omega arith)
