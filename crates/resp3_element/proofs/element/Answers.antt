-- `resp3_element::element` meets its contract. Assumes nothing.
use mathlib.Core.Path.{refl}
use Rattle.buffer.specs.Part.{part}
use Rattle.resp3_element.specs.CursorLaw as law
use Rattle.resp3_element.proofs.element.Goals as goal

pub returns : goal.returns
unfolding part
returns c = record { value = λ v vs w. law.element-law _ _ v vs w; any = refl }
