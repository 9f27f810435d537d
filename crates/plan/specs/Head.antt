-- A node's head by places, as the code reads it. Assumes nothing: these are definitions.
use Rattle.std.specs.Prelude.{ℕ, ◌+◌, ◌≤◌, length}
use Rattle.buffer.specs.Same.{Bytes}
use Rattle.buffer.specs.Field.{read32, read64}
use Rattle.planning.specs.Kinds.{kind_of_number}
use Rattle.planning.specs.Plan.{node_head_size}
use Rattle.plan.specs.declared.NodeHead.{NodeHead}

-- where the node that stands at `at` ends
abbrev pub end_at : Bytes → ℕ → ℕ
end_at s at = at + node_head_size + read32 s (at + 4) + read32 s (at + 8)

-- docs/LAYOUT.md: "node: kind u32 | length of a u32 | length of b u32 | number u64 | a | b"
unfoldable pub head_at : Bytes → ℕ → NodeHead
head_at s at =
    record {
      kind = kind_of_number (read32 s at);
      first = at + node_head_size;
      second = at + node_head_size + read32 s (at + 4);
      end = end_at s at;
      number = read64 s (at + 12);
    }

-- a whole node stands there
abbrev pub HeadIn : Bytes → ℕ → Type 0
HeadIn s at = (at + node_head_size ≤ length s) × (end_at s at ≤ length s)
