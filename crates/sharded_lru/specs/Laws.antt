-- An arena around one of its shards: the shard's bytes hold its row, and where they become another fine row's, the arena becomes the image of the rows with
-- that one in its place. So every event that the causes let through leaves an arena. Assumes nothing more than `Lent`.
use Rattle.std.specs.Prelude.{◌≡◌, refl, ℕ, suc, ◌+◌, ◌*◌, ◌≤◌, ◌<◌, eqb}
use Rattle.std.proofs.Math.Path.{sym, ap}
use Rattle.std.proofs.Common.{◌∙◌, subst, le_trans, le-mul_of_pos_right, mul_comm, mul-le-mul_right, eqb-true}
use native.Mathlib.Omega.{arith}
use Rattle.std.proofs.Math.Nat.{mod-lt}
use Rattle.std.proofs.Math.ListN.{length}
use Rattle.buffer.specs.Cases.{by_test}
use Rattle.buffer.specs.Same.{Bytes}
use Rattle.buffer.specs.Part.{part, put}
use Rattle.buffer.specs.PartLaws.{length-put}
use Rattle.config.specs.Limits.{max_arena}
use Rattle.config.specs.declared.Settings.{Settings}
use Rattle.siphash.specs.Sip.{sip_hash13}
use Rattle.resp3.specs.Ends.{is_value}
use Rattle.book.specs.Book.{Setup, Row, Book, Event, on, invalidate_all, new_epoch, row_bytes, set_row, put as put_row, effect, after}
use Rattle.book.proofs.Trace.{Proper, row_here, row-elsewhere}
use Rattle.arena.specs.Layout.{enc_shard, encode}
use Rattle.arena.proofs.Length.{length-shard}
use Rattle.arena.proofs.Around.{shard-put}
use Rattle.arena.specs.Tests.{FineRow, WellFormed}
use Rattle.arena.specs.Image.{Sized}
use Rattle.arena.proofs.Image.{encode_injective}
use Rattle.arena.specs.SetupOf.{setup_of}
use Rattle.shard.specs.Holds.{Holds}
use Rattle.shard.specs.FromImage.{image_holds}
use Rattle.sharded_lru.specs.Lent.{setup_now, Lent, rows_after}

-- the rows of the book after an event
pub rows-after : (p : Setup) (ev : Event) (bk : Book) → (after p ev bk).rows ≡ rows_after p ev bk.rows
unfolding after put_row effect rows_after
rows-after p (on q) bk = refl
rows-after p invalidate_all bk = refl
rows-after p new_epoch bk = refl

-- fine rows with another fine one in the place of one
pub formed-set : (p : Setup) (i : ℕ) (row : Row) (rows : ℕ → Row) → i < p.shards → FineRow is_value p i row → WellFormed is_value p rows
    → WellFormed is_value p (set_row i row rows)
formed-set p i row rows h f w =
    record {
      fine = λ j.
          by_test (eqb j i)
          (λ e. subst (λ (n : ℕ). FineRow is_value p n (set_row i row rows n)) (sym (eqb-true j i e)) (rw row_here f))
          (λ e. rw (row-elsewhere i j row rows e) (w.fine j));
      beyond = λ j l.
          by_test (eqb j i)
          (λ e. absurd (let q = eqb-true j i e in omega arith))
          (λ e. row-elsewhere i j row rows e ∙ w.beyond j l);
    }

module _ (g : Settings) (s : Bytes) (rows : ℕ → Row) (w : Lent g s rows) where
  pub short : g.bytes ≤ max_arena
  short =
      le_trans (le_trans (le-mul_of_pos_right g.bytes w.some) (rw (mul_comm g.bytes g.shards) w.inside)) w.largest

  pub sized : Sized (setup_now g) (length s)
  unfolding setup_of
  sized = let a = w.least in let b = short in record { header = omega arith; small = omega arith; inside = w.inside }

  pub proper : Proper (setup_now g)
  unfolding setup_of
  proper = record { some_key = w.keyed; in-range = λ k. mod-lt (sip_hash13 k) w.some }

  module _ (i : ℕ) (h : i < g.shards) where
    pub ends-within : i * g.bytes + g.bytes ≤ length s
    ends-within =
        let e : suc i * g.bytes ≤ g.shards * g.bytes = mul-le-mul_right g.bytes h in
        let a = w.inside in
        omega arith

    -- the shard's bytes hold its row
    pub shard-holds : Holds (part s (i * g.bytes) g.bytes) (rows i)
    unfolding setup_of
    shard-holds = image_holds is_value (setup_now g) s rows i sized short h w.image

    -- and where they are another row's, the arena is the image of the rows with that one
    pub shard-changed : (row : Row) → FineRow is_value (setup_now g) i row → Lent g (put s (i * g.bytes) (enc_shard g.bytes row)) (set_row i row rows)
    unfolding setup_of
    shard-changed row f =
        let room : (j : ℕ) → 16 + row_bytes (rows j) ≤ g.bytes = λ j. let b = (w.image.formed.fine j).sound.light in let a = w.least in omega arith in
        let own : 16 + row_bytes row ≤ g.bytes = let b = f.sound.light in let a = w.least in omega arith in
        let n : length (enc_shard g.bytes row) ≡ g.bytes = length-shard g.bytes row own in
        let z = ends-within in
        let l : length (put s (i * g.bytes) (enc_shard g.bytes row)) ≡ length s = length-put s (enc_shard g.bytes row) (i * g.bytes) (omega arith) in
        let a = w.inside in
        let b = w.largest in
        record {
          some = w.some;
          few = w.few;
          keyed = w.keyed;
          least = w.least;
          inside = omega arith;
          largest = omega arith;
          image = record {
            formed = formed-set (setup_now g) i row rows h f w.image.formed;
            bytes = ap (λ (m : ℕ). encode (setup_now g) m (set_row i row rows)) l
                ∙ sym (shard-put (setup_now g) (length s) i rows h room row own)
                ∙ ap (λ (t : Bytes). put t (i * g.bytes) (enc_shard g.bytes row)) w.image.bytes;
          };
        }

-- an arena holds one book's rows
pub lent_same : {g : Settings} {a : Bytes} {x y : ℕ → Row} → Lent g a x → Lent g a y → x ≡ y
lent_same {g} {a} {x} {y} v w =
    encode_injective is_value (setup_now g) (length a) (sized g a x v) x y v.image.formed w.image.formed (v.image.bytes ∙ sym w.image.bytes)
