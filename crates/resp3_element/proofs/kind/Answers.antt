-- `resp3_element::kind` meets its contract. Assumes nothing.
use mathlib.Core.Path.{sym, ap, ◌∙◌}
use Rattle.resp3.specs.Kinds.{kind_of}
use Rattle.resp3_element.specs.Law as law
use Rattle.resp3_element.proofs.kind.Goals as goal

pub returns-then-null_word_at : goal.returns-then-null_word_at
returns-then-null_word_at c =
    let e = sym (law.kind-old _ (sym c.null_word_at.ensures ∙ c.if-null_word_at.true)) in
    record { value = λ v m. e ∙ law.kind-law _ v m; any = e }

pub returns : goal.returns
returns c =
    let e = c.from.ensures ∙ ap kind_of c.first_byte.ensures ∙ sym (law.kind-own _ (sym c.null_word_at.ensures ∙ c.if-null_word_at.false)) in
    record { value = λ v m. e ∙ law.kind-law _ v m; any = e }
