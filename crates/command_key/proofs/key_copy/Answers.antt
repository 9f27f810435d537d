-- `command_key::key_copy` meets its contract. Assumes nothing.
use mathlib.Core.Path.{ap, ◌∙◌}
use native.Mathlib.Omega.{arith}
use lib.ListN.{length}
use Rattle.command_key.specs.Keys as keys
use Rattle.buffer.specs.Part.{put}
use Rattle.command_key.proofs.key_copy.Goals as goal

pub slice_bounds-copy_to-count : goal.slice_bounds-copy_to-count
slice_bounds-copy_to-count c = (keys.part_in _ _ c.requires.0 _ c.in-Part.is).0

pub slice_bounds-copy_to-start : goal.slice_bounds-copy_to-start
slice_bounds-copy_to-start c = (keys.part_in _ _ c.requires.0 _ c.in-Part.is).0

pub slice_bounds-copy_to-end : goal.slice_bounds-copy_to-end
slice_bounds-copy_to-end c = (keys.part_in _ _ c.requires.0 _ c.in-Part.is).1

pub copy_to-requires : goal.copy_to-requires
copy_to-requires c =
    let q = c.in-Part.is in
    let k = keys.cut-length c.args.s.now c.in-Part.g
    (keys.part_in _ _ c.requires.0 _ q) in
    let r = keys.range_length c.args.s.now c.in-Part.g
    (keys.part_in _ _ c.requires.0 _ q) in
    let z = ap length (keys.part_bytes _ _ c.requires.0 _ q) in
    let h = c.requires.1 in
    omega arith

pub joined_copy-requires : goal.joined_copy-requires
joined_copy-requires c =
    let q = c.in-Joined.is in
    let z = ap length (keys.joined_bytes _ _ c.requires.0 _ q) in
    let h = c.requires.1 in
    (keys.joined_in _ _ c.requires.0 _ q, omega arith)

pub named_copy-requires : goal.named_copy-requires
named_copy-requires c =
    let q = c.in-Named.is in
    let v = keys.named_in _ _ c.requires.0 _ _ _ q in
    let z = ap length (keys.named-bytes _ _ c.requires.0 _ _ _ q) in
    let h = c.requires.1 in
    (v.0, v.1, omega arith)

pub returns-in-Part : goal.returns-in-Part
returns-in-Part c =
    let q = c.in-Part.is in
    c.copy_to.ensures ∙ ap (put _ _) (keys.range-cut _ _ ∙ keys.part_bytes _ _ c.requires.0 _ q)

pub returns-in-Joined : goal.returns-in-Joined
returns-in-Joined c =
    c.joined_copy.ensures ∙ ap (put _ _) (keys.joined_bytes _ _ c.requires.0 _ c.in-Joined.is)

pub returns-in-Named : goal.returns-in-Named
returns-in-Named c =
    c.named_copy.ensures ∙ ap (put _ _)
    (keys.named-bytes _ _ c.requires.0 _ _ _
    c.in-Named.is)
