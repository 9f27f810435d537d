-- `resolving_passes::next_size` meets its contract. Assumes nothing.
use mathlib.Core.Path.{ap}
use Prim.Native.Nat.{ℕ, ◌+◌, ◌<◌}
use native.Mathlib.Omega.{arith}
use Rattle.decimal.specs.DigitLaws.{count-max}
use Rattle.resolving_passes.proofs.next_size.Goals as goal

pub overflow_sub-result : goal.overflow_sub-result
overflow_sub-result c = rw c.in-Plan.is at c.requires

pub overflow_sub-result-in-Reply : goal.overflow_sub-result-in-Reply
overflow_sub-result-in-Reply c = rw c.in-Reply.is at c.requires

pub overflow_add-result : goal.overflow_add-result
overflow_add-result c = let h : c.in-Head.n < 18446744073709551616 = omega arith in let k = count-max _ h in omega (arith, c.countdigits.ensures)

pub overflow_sub-result-in-Keep : goal.overflow_sub-result-in-Keep
overflow_sub-result-in-Keep c = rw c.in-Keep.is at c.requires

pub returns-in-Plan : goal.returns-in-Plan
returns-in-Plan c = rw c.in-Plan.is

pub returns-in-Reply : goal.returns-in-Reply
returns-in-Reply c = rw c.in-Reply.is

pub returns-in-Head : goal.returns-in-Head
returns-in-Head c = rw c.in-Head.is (ap (λ (k : ℕ). k + 3) c.countdigits.ensures)

pub returns-in-Keep : goal.returns-in-Keep
returns-in-Keep c = rw c.in-Keep.is
