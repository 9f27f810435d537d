-- `write_node_head` meets its contract: the writes are one (`node-head-written`). Assumes nothing.
use mathlib.Core.Path.{ap, ◌∙◌}
use Prim.Native.Nat.{ℕ, ◌+◌}
use Rattle.buffer.specs.Same.{Bytes}
use Rattle.buffer.specs.Field.{le32, le64}
use Rattle.buffer.specs.Part.{put}
use Rattle.plan_write.specs.Written.{node-head-written}
use Rattle.planning.specs.Kinds.{number_of_kind}
use Rattle.plan_write.proofs.write_node_head.Goals as goal

pub returns : goal.returns
returns c =
    let a = c.args in
    c.write_u64.ensures
    ∙ ap (λ (z : Bytes). put z (a.to + 12) (le64 a.number))
    (c.write_u32-3.ensures
    ∙ ap (λ (z : Bytes). put z (a.to + 8) (le32 a.second))
    (c.write_u32-2.ensures
    ∙ ap (λ (z : Bytes). put z (a.to + 4) (le32 a.first))
    (c.write_u32.ensures
    ∙ ap (λ (n : ℕ). put a.dst.now a.to (le32 n)) c.from.ensures)))
    ∙ node-head-written a.dst.now a.to (number_of_kind a.kind) a.first a.second a.number
    c.requires
