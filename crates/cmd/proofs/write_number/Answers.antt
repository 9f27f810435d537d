-- `cmd::write_number` meets its contract. Assumes nothing.
use native.Mathlib.Omega.{arith}
use Rattle.decimal.specs.Digits.{digits}
use Rattle.cmd.specs.Laws as laws
use Rattle.cmd.proofs.write_number.Goals as goal

pub write_head-e-requires : goal.write_head-e-requires
write_head-e-requires c =
    let a = c.args in
    let r = laws.blob-room a.dst.now (digits a.v) a.to c.countdigits.result c.countdigits.ensures c.requires in
    omega arith

pub write_digits-f-requires : goal.write_digits-f-requires
write_digits-f-requires c =
    let a = c.args in
    let r = laws.blob-room a.dst.now (digits a.v) a.to c.countdigits.result
    c.countdigits.ensures c.requires in
    let e = c.write_head-e.ensures.0 in
    omega arith

pub copy_to-requires : goal.copy_to-requires
copy_to-requires c =
    let a = c.args in
    let r = laws.blob-room a.dst.now (digits a.v) a.to
    c.countdigits.result
    c.countdigits.ensures
    c.requires in
    let e = c.write_head-e.ensures.0 in
    let f = c.write_digits-f.ensures.0 in
    omega arith

pub overflow_add-result : goal.overflow_add-result
overflow_add-result c =
    let a = c.args in
    let r = laws.blob-room a.dst.now (digits a.v) a.to
    c.countdigits.result
    c.countdigits.ensures
    c.requires in
    let e = c.write_head-e.ensures.0 in
    let f = c.write_digits-f.ensures.0 in
    omega arith

pub returns : goal.returns
returns c =
    let w = laws.blob-wrote _ _ _ _ _ _ _ _ _ c.countdigits.ensures c.requires c.write_head-e.ensures.0 c.write_head-e.ensures.1
    c.write_digits-f.ensures.0 c.write_digits-f.ensures.1 c.copy_to.ensures in
    (w.ends, w.is)
