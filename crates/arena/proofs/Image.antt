-- Laws of specs/Image.antt. The theorems about images: `decode` gives exactly the well-formed rows that the bytes encode, so it is `none` exactly off the image, and no
-- bytes encode two books. Assumes what cause 1 leaves (`Sized`): room for each shard's header, fewer than 2^32 bytes a shard, all shards within the
-- arena.
use Rattle.std.specs.Prelude.{◌≡◌, ℕ, ◌+◌, ◌*◌, ◌^◌, ◌≤◌, ◌<◌, ◌↔◌, Bool, length, ltb}
use Rattle.std.proofs.Common.{sym, ap, ◌∙◌, zero-le, arith, ltb-true, ltb-false, le-ltb}
use Rattle.std.proofs.Math.Path.{subst, fun_ext}
use Rattle.std.proofs.Math.Option.{none, some, none-ne-some, some-injective}
use mathlib.Core.List.{List, [], ◌∷◌}
use Rattle.buffer.specs.Cases.{by_test}
use Rattle.buffer.specs.Same.{Bytes, same}
use Rattle.buffer.specs.SameLaws.{same_refl, same-eq}
use Rattle.book.specs.Book.{Setup, Entry, Row, entry_bytes, row_bytes}
use Rattle.book.specs.Each.{Each}
use Rattle.book.proofs.SoundLaws.{sound-nil}
use Rattle.arena.specs.Layout.{encode}
use Rattle.arena.specs.Decode.{every, read_arena, rows_fine, is_image, decode}
use Rattle.arena.proofs.Length.{length-encode}
use Rattle.arena.specs.Read.{Smalls}
use Rattle.arena.proofs.Read.{shard-read}
use Rattle.arena.proofs.Around.{shard-part}
use Rattle.arena.specs.Tests.{Fits, WellFormed}
use Rattle.arena.proofs.Tests.{Trues, every-yes, rows-yes, yes-rows}
use Rattle.arena.specs.Image.{Image, Sized}

pub entries-few : (ens : List Entry) → length ens ≤ entry_bytes ens
unfolding entry_bytes
entries-few [] = zero-le
entries-few (en ∷ ens) = omega (arith, entries-few ens)

pub items-few : (row : Row) → length row ≤ row_bytes row
unfolding row_bytes
items-few [] = zero-le
items-few (it ∷ row) = omega (arith, items-few row)

module _ (is_value : Bytes → Bool) (p : Setup) where
  pub row_small : (row : Row) → row_bytes row < 256 ^ 4 → Each (Fits is_value p) row → Smalls row
  unfolding row_bytes
  row_small [] h w = tt
  row_small (it ∷ row) h w = (
    record {
      key = omega arith;
      count = omega (arith, entries-few it.entries);
      epoch = w.0.epoch;
      expiry = w.0.expiry;
      bytes = omega arith;
    },
    row_small row (omega arith) w.1,
  )

  -- ---- what is encoded is decoded

  module _ (n : ℕ) (z : Sized p n) (rows : ℕ → Row) (w : WellFormed is_value p rows) where
    within : (i : ℕ) → 16 + row_bytes (rows i) ≤ p.bytes
    within i = let l = (w.fine i).sound.light in let h = z.header in omega arith

    read_back : (i : ℕ) → read_arena p (encode p n rows) i ≡ rows i
    unfolding read_arena
    read_back i =
        by_test (ltb i p.shards)
        (λ e.
        let l = within i in
        let h = z.small in
        rw (e, shard-part p n i rows (ltb-true i p.shards e) within)
        (shard-read p.bytes (rows i) (omega (arith, items-few (rows i))) (row_small (rows i) (omega arith) (w.fine i).fits)))
        (λ e. rw e (sym (w.beyond i (ltb-false i p.shards e))))

    pub encoded-length : length (encode p n rows) ≡ n
    encoded-length = length-encode p n rows z.inside within

    -- well-formed rows are decoded from their encoding
    pub decode-encode : decode is_value p (encode p n rows) ≡ some rows
    unfolding decode is_image every
    decode-encode =
        rw (encoded-length, fun_ext read_back, same_refl (encode p n rows), yes-rows is_value p p.shards rows w.fine)

  -- ---- what is decoded is encoded

  -- rows that pass the test
  pub read-image : (s : Bytes) → Trues (rows_fine is_value p p.shards (read_arena p s) ∷ same (encode p (length s) (read_arena p s)) s ∷ [])
      → (Image is_value p) s (read_arena p s)
  unfolding read_arena
  read-image s t =
      record {
        formed = record {
          fine = λ i.
              by_test (ltb i p.shards)
              (λ e. rows-yes is_value p p.shards (read_arena p s) t.0 i (ltb-true i p.shards e))
              (λ e. rw e (record { sound = sound-nil p i; fits = tt }));
          beyond = λ i l. rw (le-ltb i p.shards l);
        };
        bytes = same-eq (encode p (length s) (read_arena p s)) s t.1.0;
      }

  -- rows that are decoded are well-formed, and the bytes are their encoding
  pub decode-exact : (s : Bytes) (rows : ℕ → Row) → decode is_value p s ≡ some rows → (Image is_value p) s rows
  unfolding decode is_image
  decode-exact s rows q =
      by_test (is_image is_value p s)
      (λ e. subst ((Image is_value p) s) (some-injective (read_arena p s) rows (rw e at q)) (read-image s (every-yes _ e)))
      (λ e. absurd (none-ne-some rows (rw e at q)))

  -- ---- both ways

  module _ (s : Bytes) (z : Sized p (length s)) where
    -- the rows decoded are exactly those of which the bytes are an image
    pub decodes : (rows : ℕ → Row) → (decode is_value p s ≡ some rows) ↔ (Image is_value p) s rows
    decodes rows = (
      decode-exact s rows,
      λ g. ap (decode is_value p) (sym g.bytes) ∙ decode-encode (length s) z rows g.formed,
    )

    -- so bytes that are not decoded are no image of any rows
    pub no-image : decode is_value p s ≡ none → (rows : ℕ → Row) → (Image is_value p) s rows → ⊥
    no-image q rows g = none-ne-some rows (sym q ∙ (decodes rows).1 g)

  -- no bytes encode two books
  pub encode_injective : (n : ℕ) → Sized p n → (a b : ℕ → Row) → WellFormed is_value p a → WellFormed is_value p b → encode p n a ≡ encode p n b → a ≡ b
  encode_injective n z a b v w e =
      some-injective a b (sym (decode-encode n z a v) ∙ ap (decode is_value p) e ∙ decode-encode n z b w)
