-- `ranges::exchange` meets its contract: one law over what the split and the exchange of its parts leave. Assumes nothing.
use Prim.Native.Nat.{◌+◌, ◌-◌}
use native.Mathlib.Omega.{arith}
use Rattle.ranges.proofs.Exchanges.{traded}
use Rattle.ranges.proofs.exchange.Goals as goal

pub returns : goal.returns
returns c =
    let a = c.args in
    traded a.s.now _ _ _ _ a.a a.b a.n (a.a + a.n - a.a) (omega arith) (omega arith) (omega arith) c.split_at_mut-front.ensures.front c.split_at_mut-front.ensures.back
    c.swap_with_slice.ensures.after c.swap_with_slice.ensures.other_after
