-- The fresh cache's arena: nothing but zeros, which setup writes. Assumes what cause 1 leaves (`Sized`).
use Rattle.std.specs.Prelude.{◌≡◌, ℕ, zero, suc, ◌+◌, ◌*◌, ◌-◌, ◌≤◌, []}
use Rattle.std.proofs.Common.{sym, ap, ◌∙◌, arith}
use Rattle.std.proofs.lemmas.List.{replicate-append-replicate}
use Rattle.buffer.specs.Field.{le}
use Rattle.book.specs.Book.{Setup, row_bytes}
use Rattle.arena.specs.Layout.{zeros, head, enc_items, enc_shard, enc_shards, encode}
use Rattle.arena.specs.Image.{Sized}

-- an empty shard of n bytes is zeros
empty-shard : (n : ℕ) → 16 ≤ n → enc_shard n [] ≡ zeros n
unfolding enc_shard head enc_items le row_bytes
empty-shard n h = let e : 16 + (n - 16) ≡ n = omega arith in replicate-append-replicate {A = ℕ} 16 (n - 16) 0 ∙ ap zeros e

empty-shards : (n m : ℕ) → 16 ≤ n → enc_shards n m (λ i. []) ≡ zeros (m * n)
unfolding enc_shards
empty-shards n zero h = let e : 0 * n ≡ 0 = omega arith in ap zeros (sym e)
empty-shards n (suc m) h =
    let e : m * n + n ≡ suc m * n = omega arith in
    rw (empty-shards n m h, empty-shard n h) (replicate-append-replicate {A = ℕ} (m * n) n 0 ∙ ap zeros e)

-- "An arena of zeros is the empty cache."
pub zeros-empty : (p : Setup) (n : ℕ) → Sized p n → encode p n (λ i. []) ≡ zeros n
unfolding encode
zeros-empty p n z =
    let l = z.inside in
    let e : p.shards * p.bytes + (n - p.shards * p.bytes) ≡ n = omega arith in
    rw (empty-shards p.bytes p.shards z.header)
    (replicate-append-replicate {A = ℕ} (p.shards * p.bytes) (n - p.shards * p.bytes) 0 ∙ ap zeros e)
