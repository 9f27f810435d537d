-- `resp3::line_end` meets its contract. Assumes nothing.
use mathlib.Core.Path.{sym, ◌∙◌}
use Rattle.resp3.specs.Paths as paths
use Rattle.resp3.proofs.line_end.Goals as goal

pub returns : goal.returns
returns c = c.crlf_end.ensures ∙ sym (paths.line-is _ _ _ (sym c.plain_end.ensures))
