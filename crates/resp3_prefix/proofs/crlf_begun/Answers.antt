-- `resp3_prefix::crlf_begun` meets its contract. Assumes nothing.
use mathlib.Core.Path.{sym}
use Rattle.resp3_prefix.specs.Paths as paths
use Rattle.resp3_prefix.proofs.crlf_begun.Goals as goal

pub returns-then-n-i : goal.returns-then-n-i
returns-then-n-i c = sym (paths.crlf-out _ _ c.if-n-i.true)

pub returns-then-s-i-ne13 : goal.returns-then-s-i-ne13
returns-then-s-i-ne13 c = sym (paths.crlf-not _ _ c.if-n-i.false c.if-s-i-ne13.true)

pub returns-then-n-i-2 : goal.returns-then-n-i-2
returns-then-n-i-2 c = sym (paths.crlf-cr _ _ c.if-n-i.false c.if-s-i-ne13.false c.if-n-i-2.true)

pub returns-then-s-i-eq10 : goal.returns-then-s-i-eq10
returns-then-s-i-eq10 c =
    sym (paths.crlf-both _ _ c.if-n-i.false c.if-s-i-ne13.false c.if-n-i-2.false c.if-s-i-eq10.true)

pub returns-else-s-i-eq10 : goal.returns-else-s-i-eq10
returns-else-s-i-eq10 c =
    sym (paths.crlf-odd _ _ c.if-n-i.false c.if-s-i-ne13.false c.if-n-i-2.false c.if-s-i-eq10.false)
