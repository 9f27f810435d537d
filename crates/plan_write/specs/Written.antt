-- Writes in a row, each behind the one before, are one: the plan's head, a node's head, a node. Assumes that there is room.
use Rattle.std.specs.Prelude.{◌≡◌, refl, Bool, cond, [], ◌∷◌, ◌++◌, ℕ, ◌+◌, ◌≤◌, length, set}
use Rattle.std.proofs.Common.{sym, ap, ◌∙◌, append_assoc, append-nil, arith, length-append}
use Rattle.buffer.specs.Same.{Bytes}
use Rattle.buffer.specs.Field.{le, le32, le64}
use Rattle.buffer.specs.Part.{put}
use Rattle.buffer.specs.PartLaws.{put-put}
use Rattle.buffer.specs.Step.{set-put}
use Rattle.resp3.specs.Value.{encode, null_bytes}
use Rattle.planning.specs.Plan.{node_bytes, plan_head_size, null_start, null_end, node_head_size}
use Rattle.plan_write.specs.Pieces.{plan_head, node_head, node-pieces, length-node-head, length-node}

-- the plan's head: flags, `_` CR LF, the number
pub plan-head-written : (s : Bytes) (f : ℕ) (b : Bool) (n : ℕ) → f ≡ cond b 1 0 → plan_head_size ≤ length s
    → put (put (set s 0 f) null_start null_bytes) null_end (le32 n) ≡ put s 0 (plan_head b n)
unfolding plan_head encode
plan-head-written s f b n q h =
    rw (
      q,
      set-put s 0 (cond b 1 0) (omega arith),
      put-put s (cond b 1 0 ∷ []) null_bytes 0 null_start refl (omega arith),
      put-put s (cond b 1 0 ∷ null_bytes) (le32 n) 0 null_end refl (omega arith),
    )

-- a node's head: four fields
pub node-head-written : (s : Bytes) (at kind a b number : ℕ) → at + node_head_size ≤ length s
    → put (put (put (put s at (le32 kind)) (at + 4) (le32 a)) (at + 8) (le32 b)) (at + 12) (le64 number) ≡ put s at (node_head kind a b number)
unfolding node_head le
node-head-written s at kind a b number h =
    let A : Bytes = le32 kind in
    let B : Bytes = le32 a in
    let C : Bytes = le32 b in
    rw (
      put-put s A B at (at + 4) refl (omega arith),
      put-put s (A ++ B) C at (at + 8) (omega arith) (omega arith),
      put-put s ((A ++ B) ++ C) (le64 number) at (at + 12) (omega arith) (omega arith),
    )
    (ap (put s at) (simp append_assoc))

-- a node: its head, its first part, its second part
pub node-written : (s : Bytes) (at kind : ℕ) (a b : Bytes) (number : ℕ) → at + length (node_bytes kind a b number) ≤ length s
    → put (put (put s at (node_head kind (length a) (length b) number)) (at + node_head_size) a) (at + node_head_size + length a) b
    ≡ put s at (node_bytes kind a b number)
node-written s at kind a b number h =
    let H : Bytes = node_head kind (length a) (length b) number in
    let l = length-node kind a b number in
    let k = length-node-head kind (length a) (length b) number in
    let j = length-append H a in
    rw (
      put-put s H a at (at + node_head_size) (omega arith) (omega arith),
      put-put s (H ++ a) b at (at + node_head_size + length a) (omega arith) (omega arith),
    )
    (ap (put s at) (append_assoc H a b) ∙ ap (put s at) (sym (node-pieces kind a b number)))

-- a node with a first part alone
pub node-first : (s : Bytes) (at kind : ℕ) (a : Bytes) (number : ℕ) → at + length (node_bytes kind a [] number) ≤ length s
    → put (put s at (node_head kind (length a) 0 number)) (at + node_head_size) a ≡ put s at (node_bytes kind a [] number)
node-first s at kind a number h =
    let H : Bytes = node_head kind (length a) 0 number in
    let l = length-node kind a [] number in
    let k = length-node-head kind (length a) 0 number in
    put-put s H a at (at + node_head_size) (omega arith) (omega arith)
    ∙ ap (λ (z : Bytes). put s at (H ++ z)) (sym (append-nil a)) ∙ ap (put s at) (sym (node-pieces kind a [] number))

-- a node with no parts
pub node-bare : (kind number : ℕ) → node_head kind 0 0 number ≡ node_bytes kind [] [] number
node-bare kind number = let H : Bytes = node_head kind 0 0 number in sym (node-pieces kind [] [] number ∙ append-nil H)
