-- `call_record::argument_end` meets its contract. Assumes nothing.
use mathlib.Core.Path.{sym, ◌∙◌}
use native.Mathlib.Omega.{arith}
use Rattle.call_record.specs.Paths as laws
use Rattle.call_record.proofs.argument_end.Goals as goal

pub returns-in_err-kind : goal.returns-in_err-kind
returns-in_err-kind c =
    laws.handed_on c.from_residual.result _ c.from_residual.ensures.1
    ∙ sym (laws.arg-out _ _ _ (sym c.byte_at.ensures ∙ c.in_err-kind.was))

pub returns-then-kind-ge2 : goal.returns-then-kind-ge2
returns-then-kind-ge2 c = sym (laws.arg-kind _ _ _ (sym c.byte_at.ensures ∙ c.in_ok-kind.was) c.if-kind-ge2.true)

pub text_end-requires : goal.text_end-requires
text_end-requires c = let z = (laws.byte-is _ _ _ (sym c.byte_at.ensures ∙ c.in_ok-kind.was)).0 in omega arith

pub returns : goal.returns
returns c = c.text_end.ensures ∙ sym (laws.arg-go _ _ _ (sym c.byte_at.ensures ∙ c.in_ok-kind.was) c.if-kind-ge2.false)
