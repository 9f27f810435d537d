-- `call_record::record_end` meets its contract. Assumes nothing.
use mathlib.Core.Path.{sym, ◌∙◌}
use Rattle.call_record.specs.CommandPaths as laws
use Rattle.call_record.specs.Paths.{handed_on}
use Rattle.call_record.proofs.record_end.Goals as goal

pub returns-in_err-e : goal.returns-in_err-e
returns-in_err-e c =
    handed_on c.from_residual.result _ c.from_residual.ensures.1
    ∙ sym (laws.record-start _ _ (sym c.word_end.ensures ∙ c.in_err-e.was))

pub tail_end-requires : goal.tail_end-requires
tail_end-requires c = (laws.record-go _ _ (sym c.word_end.ensures ∙ c.in_ok-e.was)).0

pub returns : goal.returns
returns c = c.tail_end.ensures ∙ sym (laws.record-go _ _ (sym c.word_end.ensures ∙ c.in_ok-e.was)).1
