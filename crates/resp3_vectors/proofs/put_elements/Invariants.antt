-- `resp3_vectors::put_elements` meets its contract. The cursor stands before as many of the elements as there are turns left. Assumes nothing.
use mathlib.Core.Path.{◌≡◌}
use Prim.Native.Nat.{◌+◌}
use Rattle.resp3_vectors.specs.Standing.{Standing}
use Rattle.resp3_vectors.proofs.put_elements.Given as goal

abbrev pub invariant-loop : goal.invariant-loop
invariant-loop g l = Standing l.s l.c × (l.c.left + l.counter ≡ l.fn.first.left)
