-- `call_record::check` meets its contract. Assumes nothing.
use mathlib.Core.Path.{sym, ◌∙◌}
use Rattle.call_record.specs.CommandPaths as laws
use Rattle.call_record.specs.Paths.{handed_on}
use Rattle.call_record.proofs.check.Goals as goal

pub returns-in_err-e : goal.returns-in_err-e
returns-in_err-e c =
    handed_on c.from_residual.result _ c.from_residual.ensures.1
    ∙ sym (laws.check-wrong _ _ (sym c.record_end.ensures ∙ c.in_err-e.was))

pub returns-then-e-bytes : goal.returns-then-e-bytes
returns-then-e-bytes c = sym (laws.check-trails _ _ (sym c.record_end.ensures ∙ c.in_ok-e.was) c.if-e-bytes.true)

pub returns-else-e-bytes : goal.returns-else-e-bytes
returns-else-e-bytes c = sym (laws.check-whole _ _ (sym c.record_end.ensures ∙ c.in_ok-e.was) c.if-e-bytes.false)
