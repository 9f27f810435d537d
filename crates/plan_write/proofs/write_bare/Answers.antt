-- `write_bare` meets its contract. Assumes nothing.
use mathlib.Core.Path.{ap, ◌∙◌}
use mathlib.Core.List.{[]}
use native.Mathlib.Omega.{arith}
use Rattle.buffer.specs.Part.{put}
use Rattle.plan_write.specs.Pieces.{length-node}
use Rattle.plan_write.specs.Written.{node-bare}
use Rattle.planning.specs.Kinds.{number_of_kind}
use Rattle.plan_write.proofs.write_bare.Goals as goal

pub write_node_head-requires : goal.write_node_head-requires
write_node_head-requires c = let l = length-node (number_of_kind c.args.kind) [] [] c.args.number in omega arith

pub returns : goal.returns
returns c =
    let a = c.args in
    let l = length-node (number_of_kind a.kind) [] [] a.number in
    (omega arith, c.write_node_head.ensures ∙ ap (put a.dst.now a.to) (node-bare (number_of_kind a.kind) a.number))
