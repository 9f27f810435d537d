-- `command_key::key_len` meets its contract. Assumes nothing.
use mathlib.Core.Path.{sym, ap, ◌∙◌}
use native.Mathlib.Omega.{arith}
use lib.ListN.{length}
use Rattle.command_key.specs.Keys as keys
use Rattle.command_key.specs.Named as laws
use Rattle.command_key.proofs.key_len.Goals as goal

pub overflow_sub-result : goal.overflow_sub-result
overflow_sub-result c = (keys.part_in _ _ c.requires _ c.in-Part.is).0

pub joined_len-requires : goal.joined_len-requires
joined_len-requires c = keys.joined_in _ _ c.requires _ c.in-Joined.is

pub overflow_sub-result-in-Named : goal.overflow_sub-result-in-Named
overflow_sub-result-in-Named c = (keys.named_in _ _ c.requires _ _ _ c.in-Named.is).0.0

pub overflow_add-result : goal.overflow_add-result
overflow_add-result c =
    let v = keys.named_in _ _ c.requires _ _ _ c.in-Named.is in
    let w = (laws.space c.args.s.now c.in-Named.json
    c.in-Named.g c.in-Named.p v.0 v.1).name in
    let a = v.0.1 in
    let b = v.2 in
    let e = c.name_len.ensures in
    omega arith

pub overflow_sub-result-in-Named-2 : goal.overflow_sub-result-in-Named-2
overflow_sub-result-in-Named-2 c =
    (keys.named_in _ _ c.requires _ _ _ c.in-Named.is).1.0

pub overflow_add-result-in-Named : goal.overflow_add-result-in-Named
overflow_add-result-in-Named c =
    let v = keys.named_in _ _ c.requires _ _ _ c.in-Named.is in
    let w = (laws.space c.args.s.now c.in-Named.json
    c.in-Named.g c.in-Named.p v.0 v.1).name in
    let a = v.0.1 in
    let b = v.1.1 in
    let d = v.2 in
    let e = c.name_len.ensures in
    omega arith

pub returns-in-Part : goal.returns-in-Part
returns-in-Part c =
    let q = c.in-Part.is in sym (keys.range_length _ _ (keys.part_in _ _ c.requires _ q)) ∙ ap length (keys.part_bytes _ _ c.requires _ q)

pub returns-in-Joined : goal.returns-in-Joined
returns-in-Joined c = c.joined_len.ensures ∙ ap length (keys.joined_bytes _ _ c.requires _ c.in-Joined.is)

pub returns-in-Named : goal.returns-in-Named
returns-in-Named c =
    let q = c.in-Named.is in
    let v = keys.named_in _ _ c.requires _ _ _ q in
    let a = (laws.space c.args.s.now c.in-Named.json
    c.in-Named.g c.in-Named.p v.0 v.1).all in
    let e = c.name_len.ensures in
    let z = ap length (keys.named-bytes _ _ c.requires _ _ _ q) in
    omega arith
