-- One equation for each way through the code. Assumes nothing.
use Rattle.std.specs.Prelude.{◌≡◌, Result, ℕ, ◌+◌}
use Rattle.buffer.specs.Same.{Bytes}
use Rattle.buffer.specs.Field.{read32, read64}
use Rattle.planning.specs.Kinds.{kind_of_number}
use Rattle.planning.specs.declared.NodeKind.{NodeKind}
use Rattle.planning.specs.declared.UnknownKind.{UnknownKind}
use Rattle.plan.specs.declared.NodeHead.{NodeHead}
use Rattle.plan.specs.Head.{head_at}

-- the head, from its fields
pub head-is : (s : Bytes) (at n : ℕ) (k : Result NodeKind UnknownKind) (a b x : ℕ) → n ≡ read32 s at → k ≡ kind_of_number n → a ≡ read32 s (at + 4) → b ≡ read32 s (at + 8) → x ≡ read64 s (at + 12)
    → ◌≡◌ {A = NodeHead} (record { kind = k; first = at + 20; second = at + 20 + a; end = at + 20 + a + b; number = x }) (head_at s at)
unfolding head_at
head-is s at n k a b x h z i j l = rw (z, h, i, j, l)
