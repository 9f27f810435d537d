-- `cmd::write_blob` meets its contract. Assumes nothing.
use mathlib.Core.Path.{refl}
use native.Mathlib.Omega.{arith}
use lib.ListN.{length}
use Rattle.cmd.specs.Laws as laws
use Rattle.cmd.proofs.write_blob.Goals as goal

pub write_head-e-requires : goal.write_head-e-requires
write_head-e-requires c =
    let a = c.args in
    let r = laws.blob-room a.dst.now a.text.now a.to (length a.text.now) refl c.requires in
    omega arith

pub copy_to-requires : goal.copy_to-requires
copy_to-requires c =
    let a = c.args in
    let r = laws.blob-room a.dst.now a.text.now a.to (length a.text.now) refl c.requires in
    let e = c.write_head-e.ensures.0 in
    omega arith

pub overflow_add-f : goal.overflow_add-f
overflow_add-f c =
    let a = c.args in
    let r = laws.blob-room a.dst.now a.text.now a.to (length a.text.now) refl
    c.requires in
    let e = c.write_head-e.ensures.0 in
    omega arith

pub copy_to-requires-2 : goal.copy_to-requires-2
copy_to-requires-2 c =
    let a = c.args in
    let r = laws.blob-room a.dst.now a.text.now a.to (length a.text.now) refl
    c.requires in
    let e = c.write_head-e.ensures.0 in
    omega arith

pub overflow_add-result : goal.overflow_add-result
overflow_add-result c =
    let a = c.args in
    let r = laws.blob-room a.dst.now a.text.now a.to (length a.text.now) refl
    c.requires in
    let e = c.write_head-e.ensures.0 in
    omega arith

pub returns : goal.returns
returns c =
    let w = laws.blob-wrote _ _ _ _ _ _ _ _ _ refl c.requires c.write_head-e.ensures.0 c.write_head-e.ensures.1 refl c.copy_to.ensures
    c.copy_to-2.ensures in
    (w.ends, w.is)
