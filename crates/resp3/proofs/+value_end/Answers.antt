-- `resp3::value_end`, which calls itself, meets its contract. The measure is the depth. Assumes nothing.
use mathlib.Core.Path.{◌≡◌, sym, ◌∙◌}
use Prim.Native.Nat.{◌+◌, ◌-◌}
use native.Mathlib.Omega.{arith}
use Rattle.resp3.specs.Paths as paths
use Rattle.resp3.proofs.+value_end.Goals as goal

pub returns-then-depth-eq0 : goal.returns-then-depth-eq0
returns-then-depth-eq0 t c = sym (paths.end-zero _ _ _ c.if-depth-eq0.true)

pub returns-in_err-n : goal.returns-in_err-n
returns-in_err-n t c = c.from_residual.ensures ∙ sym (paths.end-head _ _ _ _ c.if-depth-eq0.false (sym c.head_at.ensures ∙ c.in_err-n.was))

pub loop-init : goal.loop-init
loop-init t c =
    let z : c.in_ok-n.n - 0 ≡ c.in_ok-n.n = omega arith in
    rw z (paths.end-head _ _ _ _ c.if-depth-eq0.false (sym c.head_at.ensures ∙ c.in_ok-n.was))

pub returns-in_err-q : goal.returns-in_err-q
returns-in_err-q t c =
    c.from_residual-in_err-q.ensures ∙ sym (c.loop.invariant ∙ paths.items-bad _ _ _ _ (omega arith) (sym c.value_end.ensures ∙ c.in_err-q.was))

pub loop-preserved : goal.loop-preserved
loop-preserved t c =
    let z : c.in_ok-n.n - (c.loop.counter + 1) ≡ c.in_ok-n.n - c.loop.counter - 1 = omega arith in
    rw z (c.loop.invariant ∙ paths.items_more _ _ _ _ _ (omega arith) (sym c.value_end.ensures ∙ c.in_ok-q.was))

pub returns : goal.returns
returns t c = sym (c.loop.invariant ∙ paths.items-none _ _ _ _ (omega arith))
