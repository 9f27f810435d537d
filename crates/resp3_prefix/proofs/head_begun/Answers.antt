-- `resp3_prefix::head_begun` meets its contract. Assumes nothing.
use Rattle.std.specs.Prelude.{Err}
use mathlib.Core.Path.{sym, ap, ◌∙◌}
use Rattle.resp3_prefix.specs.Nulls as nulls
use Rattle.resp3_prefix.proofs.head_begun.Goals as goal

pub returns-in-Err-Never : goal.returns-in-Err-Never
returns-in-Err-Never c = c.null_begun.ensures ∙ sym (nulls.head-else _ _ _ (sym c.kind_begun.ensures ∙ c.in-Err-Never.is ∙ ap Err c.in-Err-Never.field-0-is))

pub returns-in-Ok : goal.returns-in-Ok
returns-in-Ok c = sym (nulls.head_of _ _ _ _ _ (sym c.kind_begun.ensures ∙ c.in-Ok.is))

pub returns-in-Err-Lacks : goal.returns-in-Err-Lacks
returns-in-Err-Lacks c = sym (nulls.head-lacks _ _ _ _ (sym c.kind_begun.ensures ∙ c.in-Err-Lacks.is ∙ ap Err c.in-Err-Lacks.field-0-is))
