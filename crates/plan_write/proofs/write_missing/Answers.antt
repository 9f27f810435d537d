-- `write_missing` meets its contract: the writes are one (`node-written`). Assumes nothing.
use mathlib.Core.Path.{ap, ◌∙◌}
use Prim.Native.Nat.{ℕ, ◌+◌}
use lib.ListN.{length}
use Rattle.buffer.specs.Same.{Bytes}
use Rattle.buffer.specs.Part.{put}
use Rattle.plan_write.specs.Pieces.{node_head, length-node, key-bound}
use native.Mathlib.Omega.{arith}
use Rattle.command_key.specs.Key.{key_bytes}
use Rattle.plan_write.specs.Written.{node-written}
use Rattle.planning.specs.Kinds.{number_of_kind}
use Rattle.plan_write.proofs.write_missing.Goals as goal

pub overflow_cast-n : goal.overflow_cast-n
overflow_cast-n c =
    let b = key-bound c.args.source.now c.args.command
    c.requires.0 in
    let e = c.key_len-n.ensures in
    omega arith

pub write_node_head-requires : goal.write_node_head-requires
write_node_head-requires c =
    let a = c.args in
    let l = length-node (number_of_kind a.kind) a.key.now (key_bytes a.source.now a.command) a.expiry in
    let h = c.requires.3 in
    omega arith

pub copy_to-requires : goal.copy_to-requires
copy_to-requires c =
    let a = c.args in
    let l = length-node (number_of_kind a.kind) a.key.now (key_bytes a.source.now a.command) a.expiry in
    let h = c.requires.3 in
    omega arith

pub key_copy-requires : goal.key_copy-requires
key_copy-requires c =
    let a = c.args in
    let l = length-node (number_of_kind a.kind) a.key.now (key_bytes a.source.now a.command) a.expiry in
    let h = c.requires.3 in
    (c.requires.0, omega arith)

pub overflow_add-result : goal.overflow_add-result
overflow_add-result c =
    let a = c.args in
    let l = length-node (number_of_kind a.kind) a.key.now (key_bytes a.source.now a.command) a.expiry in
    let h = c.requires.3 in
    let e = c.key_len-n.ensures in
    omega arith

pub returns : goal.returns
returns c =
    let a = c.args in
    let k : Bytes = key_bytes a.source.now a.command in
    let l = length-node (number_of_kind a.kind) a.key.now k a.expiry in
    let e = c.key_len-n.ensures in (
      omega arith,
      c.key_copy.ensures
          ∙ ap (λ (z : Bytes). put z (a.to + 20 + length a.key.now) k)
          (c.copy_to.ensures
          ∙ ap (λ (z : Bytes). put z (a.to + 20) a.key.now)
          (c.write_node_head.ensures
          ∙ ap (λ (n : ℕ). put a.dst.now a.to (node_head (number_of_kind a.kind) (length a.key.now) n a.expiry)) e))
          ∙ node-written a.dst.now a.to (number_of_kind a.kind) a.key.now k a.expiry
          c.requires.3,
    )
