-- `push::dropped` meets its contract. Assumes nothing.
use mathlib.Core.Path.{ap, ◌∙◌}
use Rattle.statistics.specs.OfBook.{counts_of}
use Rattle.statistics.specs.OfBookLaws.{adding-counts}
use Rattle.push.proofs.dropped.Goals as goal

pub returns : goal.returns
returns c = ap counts_of c.increase_each.ensures ∙ adding-counts _ _
