-- `key_filter::bit_of` meets its contract: the number of a bit is a remainder. Assumes nothing.
use mathlib.Core.Path.{ap}
use Prim.Native.Nat.{ℕ, ◌/◌, ◌%◌}
use native.Mathlib.Omega.{arith}
use lib.Bits.{bit_xor}
use Rattle.key_filter.proofs.bit_of.Goals as goal

pub returns : goal.returns
returns c = (ap (λ (m : ℕ). bit_xor m (m / 16384) % 98304) c.marked_by-m.ensures, omega arith)
