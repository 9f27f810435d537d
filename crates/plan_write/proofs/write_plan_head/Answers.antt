-- `write_plan_head` meets its contract: the writes are one (`plan-head-written`). Assumes nothing.
use mathlib.Core.Path.{refl, ap, ◌∙◌}
use Rattle.buffer.specs.Same.{Bytes}
use Rattle.buffer.specs.Field.{le32}
use Rattle.buffer.specs.Part.{put}
use native.Mathlib.Omega.{arith}
use lib.ListN.{length-set}
use Rattle.resp3.specs.Value.{encode}
use Rattle.planning.specs.Plan.{null_end}
use Rattle.plan_write.specs.Written.{plan-head-written}
use Rattle.plan_write.proofs.write_plan_head.Goals as goal

pub write_null-requires : goal.write_null-requires
unfolding encode
write_null-requires c = let l = length-set c.args.dst.now 0 c.flags.result in omega arith

pub write_u32-requires : goal.write_u32-requires
write_u32-requires c =
    let l = length-set c.args.dst.now 0
    c.flags.result in
    omega arith

pub shape_of-dst : goal.shape_of-dst
shape_of-dst c =
    let l = length-set c.args.dst.now 0
    c.flags.result in
    omega arith

pub returns : goal.returns
returns c =
    let a = c.args in (
      refl,
      c.write_u32.ensures ∙ ap (λ (z : Bytes). put z null_end (le32 a.commands))
          c.write_null.ensures
          ∙ plan-head-written a.dst.now c.flags.result a.transaction
          a.commands c.flags.ensures
          c.requires,
    )
