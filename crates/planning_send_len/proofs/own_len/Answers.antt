-- `own_len` meets its contract. Assumes nothing.
use native.Mathlib.Omega.{arith}
use Rattle.planning_send_len.specs.Lengths as lengths
use Rattle.planning_send_len.proofs.own_len.Goals as goal

pub returns : goal.returns
returns c =
    let p = c.requires in
    let e = c.args_len.ensures in
    let b = lengths.own-bound c.args.bytes.now c.args.head p.0 p.1 p.2 (omega arith) in
    (e, omega arith)
