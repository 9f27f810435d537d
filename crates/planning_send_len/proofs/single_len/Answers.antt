-- `single_len` meets its contract. Assumes nothing.
use native.Mathlib.Omega.{arith}
use Prim.Native.Nat.{ℕ, ◌-◌}
use Rattle.decimal.specs.DigitLaws.{count-max}
use Rattle.planning_send_len.specs.Lengths as lengths
use Rattle.planning_send_len.proofs.single_len.Goals as goal

pub overflow_add-result : goal.overflow_add-result
overflow_add-result c =
    let p = c.requires in
    let n : ℕ = c.args.key.end - c.args.key.start in
    let i = p.3.1 in
    let m = p.1 in
    let d = count-max n (omega arith) in
    let e = c.bulklen.ensures in
    omega arith

pub overflow_add-result-2 : goal.overflow_add-result-2
overflow_add-result-2 c =
    let g = (lengths.single-length c.args.bytes.now c.args.head
    c.args.key _ _ c.requires.3 c.requires.1
    c.bulklen.ensures c.own_len.ensures.0 c.own_len.ensures.1).1 in
    omega arith

pub returns : goal.returns
returns c =
    lengths.single-length c.args.bytes.now c.args.head
    c.args.key _ _ c.requires.3 c.requires.1
    c.bulklen.ensures c.own_len.ensures.0 c.own_len.ensures.1
