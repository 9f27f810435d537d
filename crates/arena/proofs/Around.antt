-- The arena around one shard: where its bytes stand, that they are read as its row, and that a changed row changes them alone. Assumes that every
-- row is within its shard's bytes.
use Rattle.std.specs.Prelude.{◌≡◌, refl, ℕ, zero, suc, ◌+◌, ◌*◌, ◌-◌, ◌≤◌, ◌<◌, false, ◌++◌, length, eqb}
use Rattle.std.proofs.Common.{sym, ap, ap₂, ◌∙◌, subst, arith, append_assoc, eqb-true, ne_eqb}
use Rattle.std.proofs.lemmas.Bool.{eqb-false}
use Rattle.buffer.specs.Cases.{by_test}
use Rattle.buffer.specs.Same.{Bytes}
use Rattle.buffer.specs.Part.{part, put}
use Rattle.buffer.specs.PartLaws.{part_at, put-at}
use Rattle.book.specs.Book.{Setup, Row, row_bytes, set_row}
use Rattle.book.proofs.Trace.{row_here, row-elsewhere}
use Rattle.arena.specs.Layout.{zeros, enc_shard, enc_shards, encode}
use Rattle.arena.proofs.Length.{length-shard, length-shards}

-- ---- rows where one was set

-- shards before the one that was set stay
before-set : (n m s : ℕ) (row : Row) (rows : ℕ → Row) → m ≤ s → enc_shards n m (set_row s row rows) ≡ enc_shards n m rows
unfolding enc_shards
before-set n zero s row rows h = refl
before-set n (suc m) s row rows h =
    ap₂ (λ (z : Bytes) (w : Row). z ++ enc_shard n w) (before-set n m s row rows (omega arith)) (row-elsewhere s m row rows (ne_eqb m s (λ e. omega arith)))

-- ---- shard s of m shards, of n bytes each

pub record Around (n m s : ℕ) (rows : ℕ → Row) (Y : Bytes) : Type 0 where
  -- what stands behind it, Y at the end
  pub behind : Bytes
  pub whole : enc_shards n m rows ++ Y ≡ enc_shards n s rows ++ (enc_shard n (rows s) ++ behind)
  -- another row in its place changes its bytes alone
  pub changed : (row : Row) → enc_shards n m (set_row s row rows) ++ Y ≡ enc_shards n s rows ++ (enc_shard n row ++ behind)

pub around : (n m s : ℕ) (rows : ℕ → Row) (Y : Bytes) → s < m → Around n m s rows Y
unfolding enc_shards
around n zero s rows Y h = absurd (omega arith)
around n (suc m) s rows Y h =
    by_test (eqb s m)
    (λ e. subst (λ (z : ℕ). Around n (suc m) z rows Y) (sym (eqb-true s m e)) last)
    (λ e. earlier e (around n m s rows (enc_shard n (rows m) ++ Y) (smaller e)))
  where
    smaller : eqb s m ≡ false → s < m
    smaller e = let ne = eqb-false s m e in omega arith

    last : Around n (suc m) m rows Y
    last =
        record {
          behind = Y;
          whole = append_assoc (enc_shards n m rows) (enc_shard n (rows m)) Y;
          changed = λ row.
              append_assoc (enc_shards n m (set_row m row rows)) (enc_shard n (set_row m row rows m)) Y
              ∙ ap₂ (λ (z : Bytes) (w : Row). z ++ (enc_shard n w ++ Y)) (before-set n m m row rows (omega arith)) (row_here m row rows);
        }

    earlier : eqb s m ≡ false → Around n m s rows (enc_shard n (rows m) ++ Y) → Around n (suc m) s rows Y
    earlier e g =
        record {
          behind = g.behind;
          whole = append_assoc (enc_shards n m rows) (enc_shard n (rows m)) Y ∙ g.whole;
          changed = λ row.
              append_assoc (enc_shards n m (set_row s row rows)) (enc_shard n (set_row s row rows m)) Y
              ∙ ap (λ (w : Row). enc_shards n m (set_row s row rows) ++ (enc_shard n w ++ Y))
              (row-elsewhere s m row rows (ne_eqb m s (λ q. eqb-false s m e (sym q))))
              ∙ g.changed row;
        }

-- ---- the whole arena, of n bytes

module _ (p : Setup) (n s : ℕ) (rows : ℕ → Row) (h : s < p.shards) (w : (i : ℕ) → 16 + row_bytes (rows i) ≤ p.bytes) where
  here : Around p.bytes p.shards s rows (zeros (n - p.shards * p.bytes))
  here = around p.bytes p.shards s rows (zeros (n - p.shards * p.bytes)) h

  starts : length (enc_shards p.bytes s rows) ≡ s * p.bytes
  starts = length-shards p.bytes s rows w

  -- "Shard i has bytes i · L to (i + 1) · L - 1"
  pub shard-part : part (encode p n rows) (s * p.bytes) p.bytes ≡ enc_shard p.bytes (rows s)
  unfolding encode
  shard-part =
      rw here.whole
      (part_at (enc_shards p.bytes s rows) (enc_shard p.bytes (rows s)) here.behind _ _ starts (length-shard p.bytes (rows s) (w s)))

  -- a shard's bytes replaced by another row's: the arena with that row in its place
  pub shard-put : (row : Row) → 16 + row_bytes row ≤ p.bytes
      → put (encode p n rows) (s * p.bytes) (enc_shard p.bytes row) ≡ encode p n (set_row s row rows)
  unfolding encode
  shard-put row l =
      let old = length-shard p.bytes (rows s) (w s) in
      let new = length-shard p.bytes row l in
      rw (here.whole, here.changed row)
      (put-at (enc_shards p.bytes s rows) (enc_shard p.bytes (rows s)) here.behind (enc_shard p.bytes row) _ starts (omega arith))
