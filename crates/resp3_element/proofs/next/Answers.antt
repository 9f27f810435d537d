-- `resp3_element::next` meets its contract. Assumes nothing.
use Rattle.resp3_element.specs.CursorLaw as law
use Rattle.resp3_element.proofs.next.Goals as goal

pub returns : goal.returns
returns c = record { value = λ v vs w. rw c.stand.ensures (law.next-law _ _ v vs w); any = c.stand.ensures }
