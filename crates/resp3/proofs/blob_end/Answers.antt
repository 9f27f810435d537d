use mathlib.Core.Path.{sym, ◌∙◌}
use native.Mathlib.Omega.{arith}
use Rattle.resp3.specs.Paths as paths
use Rattle.resp3.proofs.blob_end.Goals as goal

pub returns-in_err-n : goal.returns-in_err-n
returns-in_err-n c = c.from_residual.ensures ∙ sym (paths.blob-bad _ _ (sym c.length_at.ensures ∙ c.in_err-n.was))

pub overflow_add-e : goal.overflow_add-e
overflow_add-e c = let k = paths.length-bounds _ _ _ _ (sym c.length_at.ensures ∙ c.in_ok-n.was) in omega arith

pub returns : goal.returns
returns c = c.crlf_end.ensures ∙ sym (paths.blob-val _ _ _ _ (sym c.length_at.ensures ∙ c.in_ok-n.was))
