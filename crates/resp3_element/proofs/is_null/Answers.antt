-- `resp3_element::is_null` meets its contract. Assumes nothing.
use mathlib.Core.Path.{sym, ◌∙◌}
use Rattle.resp3_element.specs.Law as law
use Rattle.resp3_element.proofs.is_null.Goals as goal

pub returns-then-first_byte-eq95 : goal.returns-then-first_byte-eq95
returns-then-first_byte-eq95 c =
    let e = sym (law.null-yes c.args.s.now (sym c.first_byte.ensures ∙ c.if-first_byte-eq95.true)) in
    record { value = λ v m. e ∙ law.null-law _ v m; any = e }

pub returns : goal.returns
returns c =
    let e = c.null_word_at.ensures ∙ sym (law.null-else _ (λ z. c.if-first_byte-eq95.false (c.first_byte.ensures ∙ z))) in
    record { value = λ v m. e ∙ law.null-law _ v m; any = e }
