-- `resp3_prefix::line_begun` meets its contract. Assumes nothing.
use mathlib.Core.Path.{sym, ◌∙◌}
use native.Mathlib.Omega.{arith}
use Rattle.resp3.specs.Paths.{plain-in}
use Rattle.resp3_prefix.specs.Paths as paths
use Rattle.resp3_prefix.proofs.line_begun.Goals as goal

pub crlf_begun-requires : goal.crlf_begun-requires
crlf_begun-requires c = (c.requires.0, omega (arith, c.requires, plain-in c.args.s.now c.args.at c.requires.1))

pub returns : goal.returns
returns c = c.crlf_begun.ensures ∙ sym (paths.line-is _ _ _ (sym c.plain_end.ensures))
