-- `resp3_vectors::show` meets its contract: what `is_value` accepts is a value. Assumes nothing.
use mathlib.Core.Path.{sym, ◌∙◌}
use Rattle.resp3.proofs.Law.{value-law}
use Rattle.resp3_vectors.proofs.show.Goals as goal

pub describe-requires : goal.describe-requires
describe-requires g c = (value-law _).0 (sym c.is_value.ensures ∙ c.if-is_value.true)
