-- An arena that is an image has shards that hold their rows: what the entry points pass on meets what this crate requires. Assumes what cause 1 leaves.
use Rattle.std.specs.Prelude.{◌≡◌, ℕ, ◌+◌, ◌*◌, ◌≤◌, ◌<◌, Bool, length}
use Rattle.std.proofs.Common.{sym, ap, ◌∙◌, subst, arith}
use Rattle.buffer.specs.Same.{Bytes}
use Rattle.buffer.specs.Part.{part}
use Rattle.config.specs.Limits.{max_arena}
use Rattle.book.specs.Book.{Setup, Row, row_bytes}
use Rattle.arena.specs.Layout.{enc_shard}
use Rattle.arena.proofs.Length.{length-shard}
use Rattle.arena.proofs.Around.{shard-part}
use Rattle.arena.specs.Tests.{FineRow}
use Rattle.arena.specs.Image.{Sized, Image}
use Rattle.arena.proofs.Image.{row_small}
use Rattle.shard.specs.Holds.{Holds}

module _ (is_value : Bytes → Bool) (p : Setup) where
  -- a shard's fine row, encoded
  pub fine-holds : (i : ℕ) (row : Row) → 16 ≤ p.bytes → p.bytes ≤ max_arena → FineRow is_value p i row → Holds (enc_shard p.bytes row) row
  fine-holds i row h l w =
      let b = w.sound.light in
      let n = length-shard p.bytes row (omega arith) in
      record {
        is = ap (λ (z : ℕ). enc_shard z row) (sym n);
        room = omega arith;
        short = omega arith;
        fits = row_small is_value p row (omega arith) w.fits;
        distinct = w.sound.keys;
      }

  -- the bytes of shard i in an arena that is an image
  pub image_holds : (s : Bytes) (rows : ℕ → Row) (i : ℕ) → Sized p (length s) → p.bytes ≤ max_arena → i < p.shards → Image is_value p s rows
      → Holds (part s (i * p.bytes) p.bytes) (rows i)
  image_holds s rows i z l h w =
      let room : (j : ℕ) → 16 + row_bytes (rows j) ≤ p.bytes = λ j. let b = (w.formed.fine j).sound.light in let a = z.header in omega arith in
      let e : enc_shard p.bytes (rows i) ≡ part s (i * p.bytes) p.bytes =
      sym (ap (λ (t : Bytes). part t (i * p.bytes) p.bytes) (sym w.bytes) ∙ shard-part p (length s) i rows h room) in
      subst (λ (t : Bytes). Holds t (rows i)) e (fine-holds i (rows i) z.header l (w.formed.fine i))
