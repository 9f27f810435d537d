-- `ranges::rotate_long` meets its contract. The loop's invariant: rotating what is left gives what rotating the whole would have given. Assumes nothing.
use mathlib.Core.Path.{◌≡◌, ◌∙◌, refl}
use Prim.Native.Nat.{◌+◌, ◌-◌}
use native.Mathlib.Omega.{arith}
use Rattle.buffer.specs.Part.{part}
use Rattle.ranges.proofs.Moves.{turned}
use Rattle.ranges.proofs.Exchanges.{first-placed, second-placed}
use Rattle.ranges.proofs.rotate_long.Goals as goal

pub loop-n-init : goal.loop-n-init
loop-n-init c = (omega arith, omega arith, omega arith, omega arith, refl)

pub loop-n-preserved-then-mid-f : goal.loop-n-preserved-then-mid-f
loop-n-preserved-then-mid-f c =
    let l = c.loop-n in
    let a = c.args in
    let n = a.mid - l.f in
    let back : l.e - n + n ≡ l.e = omega arith in
    (omega arith, omega arith, omega arith, omega arith, cc (first-placed l.s l.f a.mid (l.e - n) n (omega arith) (omega arith) (omega arith)))

pub loop-n-preserved : goal.loop-n-preserved
loop-n-preserved c =
    let l = c.loop-n in
    let a = c.args in
    let n = l.e - a.mid in
    (omega arith, omega arith, omega arith, omega arith, cc (second-placed l.s l.f a.mid l.e n (omega arith) (omega arith) (omega arith)))

pub returns : goal.returns
unfolding part
returns c = turned _ _ _ _ _ (omega arith) (omega arith) (omega arith) c.rotate_left.ensures.after ∙ c.loop-n.invariant.4
