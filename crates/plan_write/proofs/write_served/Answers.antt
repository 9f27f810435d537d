-- `write_served` meets its contract: the writes are one (`node-first`). Assumes nothing.
use mathlib.Core.Path.{ap, ◌∙◌}
use Prim.Native.Nat.{◌+◌}
use Rattle.buffer.specs.Same.{Bytes}
use Rattle.buffer.specs.Part.{put}
use Rattle.planning.specs.Plan.{served_kind}
use mathlib.Core.List.{[]}
use native.Mathlib.Omega.{arith}
use Rattle.plan_write.specs.Pieces.{length-node}
use Rattle.plan_write.specs.Written.{node-first}
use Rattle.plan_write.proofs.write_served.Goals as goal

pub write_node_head-requires : goal.write_node_head-requires
write_node_head-requires c = let l = length-node served_kind c.args.value.now [] 0 in omega arith

pub copy_to-requires : goal.copy_to-requires
copy_to-requires c = let l = length-node served_kind c.args.value.now [] 0 in omega arith

pub returns : goal.returns
returns c =
    let a = c.args in
    let l = length-node served_kind a.value.now [] 0 in (
      omega arith,
      c.copy_to.ensures ∙ ap (λ (z : Bytes). put z (a.to + 20) a.value.now)
          c.write_node_head.ensures
          ∙ node-first a.dst.now a.to 1 a.value.now 0 c.requires.0,
    )
