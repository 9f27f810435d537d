-- `resp3_vectors::put_elements` meets its contract. The cursor stands before as many of the elements as there are turns left. Assumes nothing.
use native.Mathlib.Omega.{arith}
use Rattle.resp3_vectors.specs.Standing.{further}
use Rattle.resp3_vectors.proofs.put_elements.Goals as goal

pub element-requires : goal.element-requires
element-requires g c = c.loop.invariant.0.stands.inside

pub loop-preserved : goal.loop-preserved
loop-preserved g c =
    let f = further _ _ _ c.loop.invariant.0 (let i = c.loop.invariant.1 in omega arith) c.next-c.ensures.value in
    let o = f.one in
    let i = c.loop.invariant.1 in
    (f.at, omega arith)
