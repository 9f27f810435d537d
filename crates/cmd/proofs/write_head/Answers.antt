-- `cmd::write_head` meets its contract. Assumes nothing.
use native.Mathlib.Omega.{arith}
use lib.ListN.{length-set}
use Rattle.cmd.specs.Laws as laws
use Rattle.cmd.proofs.write_head.Goals as goal

pub write_digits-e-requires : goal.write_digits-e-requires
write_digits-e-requires c =
    let r = (laws.head-room c.args.dst.now c.args.to c.args.mark c.args.n
    c.requires).1 in
    let l = length-set c.args.dst.now c.args.to c.args.mark in
    omega arith

pub copy_to-requires : goal.copy_to-requires
copy_to-requires c =
    let r = (laws.head-room c.args.dst.now
    c.args.to c.args.mark
    c.args.n c.requires).1 in
    let l = length-set c.args.dst.now
    c.args.to c.args.mark in
    let e = c.write_digits-e.ensures.0 in
    omega arith

pub overflow_add-result : goal.overflow_add-result
overflow_add-result c =
    let r = (laws.head-room c.args.dst.now
    c.args.to
    c.args.mark
    c.args.n
    c.requires).1 in
    let e = c.write_digits-e.ensures.0 in
    omega arith

pub shape_of-dst : goal.shape_of-dst
shape_of-dst c =
    let l = length-set c.args.dst.now
    c.args.to
    c.args.mark in
    omega arith

pub returns : goal.returns
returns c =
    let w = laws.head-wrote _ _ _ _ _ _ _ c.requires c.write_digits-e.ensures.0 c.write_digits-e.ensures.1 c.copy_to.ensures in
    (w.ends, w.is)
