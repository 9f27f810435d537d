-- `decimal::crlf_at` meets its contract. Assumes nothing.
use mathlib.Core.Path.{sym}
use native.Mathlib.Omega.{arith}
use Rattle.decimal.specs.ReadLaws.{crlf-not, crlf-out, crlf-is}
use Rattle.decimal.proofs.crlf_at.Goals as goal

pub returns-then-i-s : goal.returns-then-i-s
returns-then-i-s c = sym (crlf-out _ _ (omega arith))

pub returns-then-s-i-ne13 : goal.returns-then-s-i-ne13
returns-then-s-i-ne13 c = sym (crlf-not _ _ c.if-s-i-ne13.true)

pub returns-then-i-s-2 : goal.returns-then-i-s-2
returns-then-i-s-2 c = sym (crlf-out _ _ c.if-i-s-2.true)

pub returns : goal.returns
returns c = sym (crlf-is _ _ c.if-s-i-ne13.false)
