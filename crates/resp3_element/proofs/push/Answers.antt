-- `resp3_element::push` meets its contract. Assumes nothing.
use Rattle.resp3_element.specs.CursorLaw as law
use Rattle.resp3_element.proofs.push.Goals as goal

pub returns : goal.returns
returns c = record { value = λ v m. rw c.list.ensures (law.push-law _ v m); any = c.list.ensures }
