-- `resp3_prefix::digits_of` meets its contract. Assumes nothing.
use mathlib.Core.Path.{sym, ap}
use Rattle.resp3_prefix.specs.Begun.{digits_of}
use Rattle.resp3_prefix.proofs.digits_of.Goals as goal

pub returns-in-Whole : goal.returns-in-Whole
returns-in-Whole c = sym (ap digits_of c.in-Whole.is)
