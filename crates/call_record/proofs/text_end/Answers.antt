-- `call_record::text_end` meets its contract. Assumes nothing.
use mathlib.Core.Path.{sym, ◌∙◌}
use Rattle.call_record.specs.Paths as laws
use Rattle.call_record.proofs.text_end.Goals as goal

pub read_u32-requires : goal.read_u32-requires
read_u32-requires c =
    (laws.text-inside c.args.simple _ c.text_max.ensures _ _ _ c.requires (sym c.number_end.ensures ∙ c.in_ok-e.was)).0

pub skip_end-requires : goal.skip_end-requires
skip_end-requires c =
    (laws.text-inside c.args.simple _ c.text_max.ensures _ _ _ c.requires (sym c.number_end.ensures ∙ c.in_ok-e.was)).1

pub returns-in_err-e : goal.returns-in_err-e
returns-in_err-e c =
    laws.handed_on c.from_residual.result _ c.from_residual.ensures.1
    ∙ sym (laws.text-no c.args.simple _ c.text_max.ensures _ _ _ (sym c.number_end.ensures ∙ c.in_err-e.was))

pub returns : goal.returns
returns c =
    c.skip_end.ensures
    ∙ sym (laws.text-on c.args.simple _ c.text_max.ensures _ _ _ _
    (λ i. (c.type_inv.s i).fits) c.requires (sym c.number_end.ensures ∙ c.in_ok-e.was) c.read_u32.ensures)
