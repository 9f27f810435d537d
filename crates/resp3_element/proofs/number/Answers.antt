-- `resp3_element::number` meets its contract. Assumes nothing.
use mathlib.Core.Path.{◌∙◌}
use Rattle.resp3_element.specs.Law as law
use Rattle.resp3_element.proofs.number.Goals as goal

pub returns : goal.returns
returns c = record { value = λ v m. c.integer_at.ensures ∙ law.integer-law _ v m; any = c.integer_at.ensures }
