use mathlib.Core.Path.{sym, ◌∙◌}
use native.Mathlib.Omega.{arith}
use Rattle.decimal.specs.ReadLaws.{crlf-in}
use Rattle.resp3.specs.Paths as paths
use Rattle.resp3.proofs.crlf_end.Goals as goal

pub overflow_add-result : goal.overflow_add-result
overflow_add-result c =
    omega (arith, crlf-in c.args.s.now c.args.at (sym c.crlf_at.ensures ∙ c.if-crlf_at.true))

pub returns-then-crlf_at : goal.returns-then-crlf_at
returns-then-crlf_at c = sym (paths.crlf-yes _ _ (sym c.crlf_at.ensures ∙ c.if-crlf_at.true))

pub returns-else-crlf_at : goal.returns-else-crlf_at
returns-else-crlf_at c = sym (paths.crlf-no _ _ (sym c.crlf_at.ensures ∙ c.if-crlf_at.false))
