-- `resp3_prefix::verbatim_body` meets its contract. Assumes nothing.
use mathlib.Core.Path.{sym, ◌∙◌}
use Rattle.resp3_prefix.specs.Paths as paths
use Rattle.resp3_prefix.proofs.verbatim_body.Goals as goal

pub returns-then-n-lt4 : goal.returns-then-n-lt4
returns-then-n-lt4 c = sym (paths.body-few _ _ _ c.if-n-lt4.true)

pub returns-then-s-e : goal.returns-then-s-e
returns-then-s-e c = c.crlf_begun.ensures ∙ sym (paths.body-out _ _ _ c.if-n-lt4.false c.if-s-e.true)

pub returns-then-s-e-ne58 : goal.returns-then-s-e-ne58
returns-then-s-e-ne58 c = sym (paths.body-no-colon _ _ _ c.if-n-lt4.false c.if-s-e.false c.if-s-e-ne58.true)

pub returns : goal.returns
returns c =
    c.crlf_begun-2.ensures ∙ sym (paths.body-colon _ _ _ c.if-n-lt4.false c.if-s-e.false c.if-s-e-ne58.false)
