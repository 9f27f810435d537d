-- `resp3_element::list` meets its contract. Assumes nothing.
use Rattle.std.specs.Prelude.{Some}
use mathlib.Core.Path.{sym, ap, ◌∙◌}
use Rattle.resp3_element.specs.Paths as paths
use Rattle.resp3_element.proofs.list.Goals as goal

pub returns-then-first_byte-b : goal.returns-then-first_byte-b
returns-then-first_byte-b c = sym (paths.list-no _ _ (λ z. c.if-first_byte-b.true (c.first_byte.ensures ∙ z)))

pub returns-in_err-n : goal.returns-in_err-n
returns-in_err-n c =
    c.from_residual.ensures ∙ sym (paths.list-is _ _ _ (sym c.first_byte.ensures ∙ c.if-first_byte-b.false) (sym c.length_at.ensures ∙ c.in_err-n.was))

pub returns : goal.returns
returns c =
    ap Some c.stand.ensures ∙ sym
    (paths.list-is _ _ _ (sym c.first_byte.ensures ∙ c.if-first_byte-b.false)
    (sym c.length_at.ensures ∙ c.in_ok-n.was))
