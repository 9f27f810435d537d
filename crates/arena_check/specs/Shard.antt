-- The check of a shard finds exactly the bytes that encode a well-formed row: both ways. Assumes bytes (below 256) and fewer than 2^32 of them.
use Rattle.std.specs.Prelude.{◌≡◌, Bool, [], ◌∷◌, ◌++◌, Some}
use Rattle.std.proofs.Math.Path.{sym, ap, ap₂}
use Rattle.std.proofs.Common.{◌∙◌, subst, append_assoc, length-drop}
use Prim.Native.Nat.{ℕ, ◌+◌, ◌-◌, ◌^◌, ◌≤◌, ◌<◌}
use native.Mathlib.Omega.{arith}
use Rattle.std.proofs.Math.Bool.{true}
use Rattle.std.proofs.Math.ListN.{length, take, drop, length-append}
use Rattle.std.proofs.Math.Seq.{drop_at}
use borrow.Author.Tests.{leb-true, le-leb}
use Rattle.buffer.specs.Same.{Bytes}
use Rattle.buffer.specs.Field.{Octets, read32}
use Rattle.buffer.specs.FieldLaws.{read_below}
use Rattle.buffer.specs.Part.{part}
use Rattle.buffer.specs.PartLaws.{around-part, part-front}
use Rattle.buffer.specs.Zero.{all_zero, zeros-pass, passed-zeros}
use Rattle.book.specs.Book.{Setup, Item, Row, row_bytes}
use Rattle.book.specs.Each.{Each}
use Rattle.book.specs.Sound.{SoundItem}
use Rattle.format.specs.Lists.{All}
use Rattle.arena.specs.Decode.{read_shard}
use Rattle.arena.proofs.Image.{items-few, row_small}
use Rattle.arena.specs.Layout.{zeros, head, enc_items, enc_shard}
use Rattle.arena.proofs.Length.{length-head, length-items}
use Rattle.arena.proofs.Read.{head_first, head-second, shard-read}
use Rattle.arena.specs.Tests.{Fits, FineRow}
use Rattle.arena.proofs.Tests.{every-yes, yes-every}
use Rattle.arena_check.specs.Check.{items_end, shard_ok}
use Rattle.arena_check.specs.Ends.{ends-true, true-ends}
use Rattle.arena_check.specs.Items.{GoodItem, ItemsThere, items-found, items-pass}
use Rattle.arena_check.specs.There.{head-there, head-zeros}

module _ (is_value : Bytes → Bool) (p : Setup) (s : Bytes) (shard : ℕ) where
  abbrev Good : ℕ → Item → Type 0
  Good end it = GoodItem is_value p s shard end it

  all_sound : (end : ℕ) (row : Row) → All (Good end) row → Each (SoundItem p shard) row
  all_sound end [] w = tt
  all_sound end (it ∷ row) w = (w.0.sound, all_sound end row w.1)

  all_fit : (end : ℕ) (row : Row) → All (Good end) row → Each (Fits is_value p) row
  all_fit end [] w = tt
  all_fit end (it ∷ row) w = (w.0.fits, all_fit end row w.1)

  both-good : (end : ℕ) (row : Row) → Each (SoundItem p shard) row → Each (Fits is_value p) row → All (Good end) row
  both-good end [] v w = tt
  both-good end (it ∷ row) v w = (record { sound = v.0; fits = w.0 }, both-good end row v.1 w.1)

  -- the shard of a well-formed row
  pub record ShardOf (row : Row) : Type 0 where
    pub fine : FineRow is_value p shard row
    pub bytes : enc_shard (length s) row ≡ s

  -- what passes is one
  row-found : Octets s → 16 ≤ length s → length s ≡ p.bytes → shard_ok is_value p.shard_of p.keys s shard ≡ true
      → (row : Row) × ShardOf row × (length row < 256 ^ 4) × (row_bytes row < 256 ^ 4)
  unfolding shard_ok enc_shard
  row-found b h n e =
      let w = every-yes _ e in
      let used : ℕ = read32 s 4 in
      let end : ℕ = 16 + used in
      let fits : end ≤ length s = leb-true _ _ w.1.0 in
      let g : ItemsThere is_value p s shard end end (read32 s 0) =
      items-found is_value p s shard end b fits (read32 s 0) end (ends-true _ _ w.1.1.1.1.0) in
      let m : row_bytes g.row ≡ used = omega (arith, g.ends) in
      let c = g.count in
      let few : read32 s 0 ≤ p.keys = leb-true _ _ w.0 in
      let front : take 16 s ≡ head (read32 s 0) used = sym (part-front s 16) ∙ head-there s 0 b h w.1.1.0 in
      let rest : drop end s ≡ zeros (length s - end) = passed-zeros (drop end s) w.1.1.1.0 ∙ ap zeros (length-drop end s) in
      let items : part s 16 used ≡ enc_items g.row = ap (part s 16) (sym m) ∙ g.bytes in
      let whole : s ≡ head (read32 s 0) used ++ (enc_items g.row ++ zeros (length s - end)) =
      around-part s 16 used ∙ (λ i. front i ++ (items i ++ rest i)) in
      let below₁ = read_below 4 s 0 b in
      let below₂ = read_below 4 s 4 b in (
        g.row,
        record {
          fine = record {
            sound = record { keys = g.distinct; items = all_sound end g.row g.good; few = omega arith; light = omega arith };
            fits = all_fit end g.row g.good;
          };
          bytes = (λ i. head (c i) (m i) ++ (enc_items g.row ++ zeros (length s - (16 + m i)))) ∙ sym whole;
        },
        omega arith,
        omega arith,
      )

  -- and it is the row that is read there
  pub shard-found : Octets s → 16 ≤ length s → length s ≡ p.bytes → shard_ok is_value p.shard_of p.keys s shard ≡ true → ShardOf (read_shard s)
  shard-found b h n e =
      let g = row-found b h n e in
      let row_is : read_shard s ≡ g.0 =
      ap read_shard (sym g.1.bytes) ∙ shard-read (length s) g.0 g.2 (row_small is_value p g.0 g.3 g.1.fine.fits) in
      subst ShardOf (sym row_is) g.1

  -- and the shard of a well-formed row passes
  pub shard-passes : length s < 256 ^ 4 → 16 ≤ length s → length s ≡ p.bytes → (row : Row) → ShardOf row
      → shard_ok is_value p.shard_of p.keys s shard ≡ true
  unfolding shard_ok enc_shard
  shard-passes l h n row g =
      let used : ℕ = row_bytes row in
      let H : Bytes = head (length row) used in
      let Z : Bytes = zeros (length s - (16 + used)) in
      let e : s ≡ H ++ (enc_items row ++ Z) = sym g.bytes in
      let light = g.fine.sound.light in
      let few = items-few row in
      let c : read32 s 0 ≡ length row = ap (λ (x : Bytes). read32 x 0) e ∙ head_first (length row) used (enc_items row ++ Z) (omega arith) in
      let u : read32 s 4 ≡ used = ap (λ (x : Bytes). read32 x 4) e ∙ head-second (length row) used (enc_items row ++ Z) (omega arith) in
      let z : all_zero (part s 8 8) ≡ true = ap all_zero (ap (λ (x : Bytes). part x 8 8) e ∙ head-zeros (length row) used (enc_items row ++ Z)) ∙ zeros-pass 8 in
      let e₂ : s ≡ (H ++ enc_items row) ++ Z = e ∙ sym (append_assoc H (enc_items row) Z) in
      let m : length (H ++ enc_items row) ≡ 16 + used = length-append H (enc_items row) ∙ ap₂ ◌+◌ (length-head (length row) used) (length-items row) in
      let r : all_zero (drop (16 + used) s) ≡ true =
      ap all_zero (ap (drop (16 + used)) e₂ ∙ drop_at (H ++ enc_items row) Z (16 + used) m) ∙ zeros-pass (length s - (16 + used)) in
      let ends : items_end is_value p.shard_of s shard (16 + used) (length row) ≡ Some (16 + used) =
      items-pass is_value p s shard (16 + used) l H Z row (length-head (length row) used) e
      (both-good (16 + used) row g.fine.sound.items g.fine.fits) g.fine.sound.keys (omega arith) in
      let keys = g.fine.sound.few in
      yes-every _ (
        le-leb (read32 s 0) p.keys (omega arith),
        (
          le-leb (16 + read32 s 4) (length s) (omega arith),
          (
            z,
            (
              ap (λ (i : ℕ). all_zero (drop (16 + i) s)) u ∙ r,
              (true-ends _ (16 + read32 s 4) ((λ i. items_end is_value p.shard_of s shard (16 + u i) (c i)) ∙ ends ∙ ap (λ (i : ℕ). Some (16 + i)) (sym u)), tt),
            ),
          ),
        ),
      )
