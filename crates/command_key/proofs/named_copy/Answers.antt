-- `command_key::named_copy` meets its contract. Assumes nothing.
use native.Mathlib.Omega.{arith}
use Rattle.command_key.specs.Named as laws
use Rattle.command_key.proofs.named_copy.Goals as goal

pub name_copy-requires : goal.name_copy-requires
name_copy-requires c =
    let w = (laws.space c.args.s.now c.args.json c.args.g
    c.args.p c.requires.0 c.requires.1).all in
    omega arith

pub overflow_add-key : goal.overflow_add-key
overflow_add-key c =
    let w = (laws.space c.args.s.now
    c.args.json c.args.g
    c.args.p c.requires.0
    c.requires.1).all in
    let e = c.name_len.ensures in
    let h = c.requires.2 in
    omega arith

pub copy_to-requires : goal.copy_to-requires
copy_to-requires c =
    let w = laws.space c.args.s.now
    c.args.json
    c.args.g
    c.args.p
    c.requires.0
    c.requires.1 in
    let a = w.all in
    let k = w.key in
    let e = c.name_len.ensures in
    let h = c.requires.2 in
    omega arith

pub overflow_add-path : goal.overflow_add-path
overflow_add-path c =
    let w = (laws.space c.args.s.now
    c.args.json
    c.args.g
    c.args.p
    c.requires.0
    c.requires.1).all in
    let e = c.name_len.ensures in
    let h = c.requires.2 in
    omega arith

pub copy_to-requires-2 : goal.copy_to-requires-2
copy_to-requires-2 c =
    let w = laws.space c.args.s.now
    c.args.json
    c.args.g
    c.args.p
    c.requires.0
    c.requires.1 in
    let a = w.all in
    let p = w.path in
    let e = c.name_len.ensures in
    let h = c.requires.2 in
    omega arith

pub returns : goal.returns
returns c =
    laws.named-copied _ _ _ _ _ c.args.json _ _ _ _ c.requires.0 c.requires.1 c.requires.2 c.name_len.ensures c.name_copy.ensures
    c.copy_to.ensures c.copy_to-2.ensures
