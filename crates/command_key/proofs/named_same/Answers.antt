-- `command_key::named_same` meets its contract. Assumes nothing.
use mathlib.Core.Path.{sym, ◌∙◌}
use native.Mathlib.Omega.{arith}
use Rattle.command_key.specs.Named as laws
use Rattle.command_key.proofs.named_same.Goals as goal

pub overflow_add-m : goal.overflow_add-m
overflow_add-m c =
    let w = (laws.space c.args.s.now c.args.json c.args.g
    c.args.p c.requires.0 c.requires.1).name in
    let a = c.requires.0.1 in
    let b = c.requires.2 in
    let e = c.name_len-n.ensures in
    omega arith

pub overflow_add-m-2 : goal.overflow_add-m-2
overflow_add-m-2 c =
    let w = (laws.space c.args.s.now c.args.json c.args.g
    c.args.p c.requires.0 c.requires.1).name in
    let a = c.requires.0.1 in
    let f = c.requires.1.1 in
    let b = c.requires.2 in
    let e = c.name_len-n.ensures in
    omega arith

pub returns-then-t-m : goal.returns-then-t-m
returns-then-t-m c =
    sym (laws.same-other _ _ c.args.json _ _ c.requires.0 c.requires.1 _ c.name_len-n.ensures c.if-t-m.true)

pub same_at-requires : goal.same_at-requires
same_at-requires c =
    let k = (laws.space c.args.s.now
    c.args.json c.args.g
    c.args.p c.requires.0
    c.requires.1).key in
    let e = c.if-t-m.false in
    omega arith

pub same_at-requires-then-same_at : goal.same_at-requires-then-same_at
same_at-requires-then-same_at c =
    let k = (laws.space c.args.s.now
    c.args.json
    c.args.g
    c.args.p
    c.requires.0
    c.requires.1).path in
    let e = c.if-t-m.false in
    omega arith

pub returns-then-same_at : goal.returns-then-same_at
returns-then-same_at c =
    c.same_at-then-same_at.ensures
    ∙ sym (laws.same-path _ _ c.args.json _ _ c.requires.0 c.requires.1 _ c.name_len-n.ensures c.if-t-m.false
    (sym c.name_same.ensures ∙ c.if-name_same.true) (sym c.same_at.ensures ∙ c.if-same_at.true))

pub returns-else-same_at : goal.returns-else-same_at
returns-else-same_at c =
    sym (laws.same_key _ _ c.args.json _ _ c.requires.0 c.requires.1 _ c.name_len-n.ensures c.if-t-m.false
    (sym c.name_same.ensures ∙ c.if-name_same.true) (sym c.same_at.ensures ∙ c.if-same_at.false))

pub returns-else-name_same : goal.returns-else-name_same
returns-else-name_same c =
    sym (laws.same_name _ _ c.args.json _ _ c.requires.0 c.requires.1 _ c.name_len-n.ensures c.if-t-m.false
    (sym c.name_same.ensures ∙ c.if-name_same.false))
