-- Arguments written as blobs, by how many are left and where the next one stands. Assumes nothing.
use Rattle.std.specs.Prelude.{◌≡◌, ℕ, ◌+◌, ◌≤◌, length, get_or}
use Rattle.std.proofs.Common.{sym, eq-eqb}
use Rattle.buffer.specs.Same.{Bytes}
use Rattle.buffer.specs.Part.{put}
use Rattle.buffer.specs.Copied.{Copied, copied_next, copied-room}
use Rattle.cursor.specs.At.{size_at, next_at, arg_at}
use Rattle.command_key.proofs.JoinedPlaces.{cut_at, cut-is}
use Rattle.cmd.specs.Pack.{sent, blob}
use Rattle.cmd.specs.Laws.{blobs_at, blobs-more}

-- a simple argument's bytes as they are cut out
pub sent-simple : (s : Bytes) (cur at k : ℕ) → get_or s at 0 ≡ 0 → k ≡ size_at s at → sent cur (arg_at s at) ≡ cut_at s at k
sent-simple s cur at k h e = rw (eq-eqb (get_or s at 0) 0 h) (sym (cut-is s at k e))

-- one more argument written
pub blobs-room : (d₀ all d s : Bytes) (cur m n at to e : ℕ) → m ≡ n + 1 → Copied d₀ to all d e (blobs_at s cur m at)
    → e + length (blob (sent cur (arg_at s at))) ≤ length d
blobs-room d₀ all d s cur m n at to e q w =
    copied-room d₀ all d (blob (sent cur (arg_at s at))) (blobs_at s cur m at) (blobs_at s cur n (next_at s at)) to e (blobs-more s cur m n at q) w

-- the first is written
pub blobs-step : (d₀ all d d₁ s : Bytes) (cur m n at to e f k : ℕ) → m ≡ n + 1 → k ≡ size_at s at → f ≡ e + length (blob (sent cur (arg_at s at)))
    → d₁ ≡ put d e (blob (sent cur (arg_at s at))) → Copied d₀ to all d e (blobs_at s cur m at) → Copied d₀ to all d₁ f (blobs_at s cur n (at + 5 + k))
blobs-step d₀ all d d₁ s cur m n at to e f k q z p u w =
    rw z (copied_next d₀ all d d₁ (blob (sent cur (arg_at s at))) (blobs_at s cur m at) (blobs_at s cur n (next_at s at)) to e f (blobs-more s cur m n at q) p u w)
