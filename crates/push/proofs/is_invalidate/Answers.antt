-- `push::is_invalidate` meets its contract. Assumes nothing.
use mathlib.Core.Path.{◌∙◌}
use Rattle.push.specs.Laws.{invalidate-law}
use Rattle.push.proofs.is_invalidate.Goals as goal

pub returns : goal.returns
returns c = λ v m. c.same.ensures ∙ invalidate-law v _ (c.blob.ensures.value v m)
