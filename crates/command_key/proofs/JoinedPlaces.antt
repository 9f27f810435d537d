-- Arguments joined, by how many are left and where the next one stands, and its bytes as they are cut out of the record. Assumes nothing.
use Rattle.std.specs.Prelude.{◌≡◌, ◌++◌, ℕ, ◌+◌, ◌-◌, ◌≤◌, take, length, drop}
use Rattle.std.proofs.Math.Path.{ap, ap₂}
use Rattle.std.proofs.Common.{sym, ◌∙◌, arith}
use Rattle.buffer.specs.Same.{Bytes}
use Rattle.buffer.specs.Part.{part}
use Rattle.buffer.specs.PartLaws.{length_part}
use Rattle.buffer.specs.Copied.{Copied, copied-room}
use Rattle.cursor.specs.At.{size_at, next_at, ArgIn, ArgsIn}
use Rattle.cursor.specs.Steps.{in-more, args_more}
use Rattle.cursor.specs.Index.{own_is}
use Rattle.command_key.specs.Key.{command_key}
use Rattle.command_key.specs.Joined.{joined_at}

-- the bytes of one argument's own, as they are cut out
abbrev pub cut_at : Bytes → ℕ → ℕ → Bytes
cut_at s at n = take (at + 5 + n - (at + 5)) (drop (at + 5) s)

-- the first, and the others
pub joined-more : (s : Bytes) (m n at : ℕ) → m ≡ n + 1 → ArgsIn s m at → joined_at s m at ≡ part s (at + 5) (size_at s at) ++ joined_at s n (next_at s at)
unfolding command_key
joined-more s m n at q w =
    ap command_key (args_more s m n at q) ∙ ap (λ (x : Bytes). x ++ joined_at s n (next_at s at)) (own_is s at (in-more s m n at q w).0)

-- what is cut out is the part
pub cut-is : (s : Bytes) (at n : ℕ) → n ≡ size_at s at → cut_at s at n ≡ part s (at + 5) (size_at s at)
unfolding part
cut-is s at n e = let z : at + 5 + n - (at + 5) ≡ size_at s at = omega arith in rw z

-- how long it is
pub cut-length : (s : Bytes) (at n : ℕ) → n ≡ size_at s at → ArgIn s at → length (cut_at s at n) ≡ n
cut-length s at n e w = let i = w.inside in ap length (cut-is s at n e) ∙ length_part s (at + 5) (size_at s at) (omega arith) ∙ sym e

-- the first argument's bytes as they are cut out, and the others
pub joined-cut : (s : Bytes) (m n at k : ℕ) → m ≡ n + 1 → ArgsIn s m at → k ≡ size_at s at → joined_at s m at ≡ cut_at s at k ++ joined_at s n (at + 5 + k)
joined-cut s m n at k q w e =
    joined-more s m n at q w ∙ ap₂ (λ (v : Bytes) (z : ℕ). v ++ joined_at s n (at + 5 + z)) (sym (cut-is s at k e)) (sym e)

-- room for the next argument's bytes
pub cut-room : (d₀ all d s : Bytes) (m n at k to e : ℕ) → m ≡ n + 1 → ArgsIn s m at → k ≡ size_at s at → Copied d₀ to all d e (joined_at s m at)
    → e + length (cut_at s at k) ≤ length d
cut-room d₀ all d s m n at k to e q w p c =
    copied-room d₀ all d (cut_at s at k) (joined_at s m at) (joined_at s n (at + 5 + k)) to e (joined-cut s m n at k q w p) c
