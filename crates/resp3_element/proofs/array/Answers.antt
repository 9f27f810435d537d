-- `resp3_element::array` meets its contract. Assumes nothing.
use Rattle.resp3_element.specs.CursorLaw as law
use Rattle.resp3_element.proofs.array.Goals as goal

pub returns : goal.returns
returns c = record { value = λ v m. rw c.list.ensures (law.array-law _ v m); any = c.list.ensures }
