-- `resp3_element::first_byte` meets its contract. Assumes nothing.
use mathlib.Core.Path.{sym}
use native.Mathlib.Omega.{arith}
use Rattle.buffer.specs.Places.{get_or-out}
use Rattle.resp3_element.proofs.first_byte.Goals as goal

pub returns-else-s-gt0 : goal.returns-else-s-gt0
returns-else-s-gt0 c = sym (get_or-out c.args.s.now 0 (omega arith))
