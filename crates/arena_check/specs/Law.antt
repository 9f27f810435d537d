-- The check by places is the crate arena's test: `arena_ok` is `is_image`. Assumes bytes (below 256) and what cause 1 leaves (`Sized`).
use Rattle.std.specs.Prelude.{◌≡◌, Bool, true, false, ◌++◌, length, ltb}
use Rattle.std.proofs.Math.Path.{refl, sym, ap, ap₂, subst}
use Rattle.std.proofs.Common.{◌∙◌, mul-le-mul_right, length-drop, take-add}
use Prim.Native.Nat.{ℕ, zero, suc, ◌+◌, ◌*◌, ◌-◌, ◌≤◌, ◌<◌}
use native.Mathlib.Omega.{arith}
use Rattle.std.proofs.Math.ListN.{take, drop, take-append-drop}
use Rattle.std.proofs.Math.Seq.{drop_at}
use borrow.Author.Tests.{ltb-true, ltb-false, lt-ltb}
use Rattle.buffer.specs.Cases.{by_test}
use Rattle.buffer.specs.Same.{Bytes, same}
use Rattle.buffer.specs.SameLaws.{same_refl}
use Rattle.buffer.specs.Field.{Octets}
use Rattle.buffer.specs.Part.{part}
use Rattle.buffer.specs.PartLaws.{around-part, length_part}
use Rattle.buffer.specs.Zero.{all_zero, zeros-pass, passed-zeros}
use Rattle.book.specs.Book.{Setup, row_bytes}
use Rattle.book.proofs.SoundLaws.{sound-nil}
use Rattle.arena.proofs.Around.{shard-part}
use Rattle.arena.specs.Decode.{read_shard, read_arena, is_image}
use Rattle.arena.specs.Image.{Sized, Image}
use Rattle.arena.proofs.Image.{read-image}
use Rattle.arena.specs.Layout.{zeros, enc_shard, enc_shards, encode}
use Rattle.arena.proofs.Length.{length-shards}
use Rattle.arena.proofs.Octets.{octets-front, octets-back}
use Rattle.arena.specs.Tests.{FineRow}
use Rattle.arena.proofs.Tests.{every-yes, yes-every, yes-rows}
use Rattle.arena_check.specs.Check.{shard_ok, shards_ok, arena_ok}
use Rattle.arena_check.specs.Shard.{ShardOf, shard-found, shard-passes}

-- two tests that hold together are one
same_truth : (a b : Bool) → (a ≡ true → b ≡ true) → (b ≡ true → a ≡ true) → a ≡ b
same_truth true b f g = sym (f refl)
same_truth false true f g = g refl
same_truth false false f g = refl

-- a part of bytes is bytes
part-octets : (s : Bytes) (at n : ℕ) → Octets s → Octets (part s at n)
part-octets s at n b =
    octets-front (part s at n) (drop (at + n) s) (octets-back (take at s) (part s at n ++ drop (at + n) s) (subst Octets (around-part s at n) b))

module _ (is_value : Bytes → Bool) (p : Setup) (s : Bytes) (b : Octets s) (z : Sized p (length s)) where
  -- the bytes of shard i
  abbrev shard : ℕ → Bytes
  shard i = part s (i * p.bytes) p.bytes

  inside : (i : ℕ) → i < p.shards → i * p.bytes + p.bytes ≤ length s
  inside i l =
      let e : suc i * p.bytes ≤ p.shards * p.bytes = mul-le-mul_right p.bytes l in
      let h = z.inside in
      omega arith

  long : (i : ℕ) → i < p.shards → length (shard i) ≡ p.bytes
  long i l = length_part s (i * p.bytes) p.bytes (inside i l)

  -- ---- what passes is an image

  each-passes : (n : ℕ) → shards_ok is_value p.shard_of p.keys p.bytes s n ≡ true → (i : ℕ) → i < n
      → shard_ok is_value p.shard_of p.keys (shard i) i ≡ true
  unfolding shards_ok
  each-passes zero e i l = absurd (omega arith)
  each-passes (suc n) e i l =
      let w = every-yes _ e in
      by_test (ltb i n) (λ q. each-passes n w.1.0 i (ltb-true i n q))
      (λ q.
      let same_place : i ≡ n = omega (arith, ltb-false i n q) in
      subst (λ (j : ℕ). shard_ok is_value p.shard_of p.keys (shard j) j ≡ true) (sym same_place) w.0)

  here : (i : ℕ) → i < p.shards → read_arena p s i ≡ read_shard (shard i)
  unfolding read_arena
  here i l = rw (lt-ltb i p.shards l)

  module _ (e : shards_ok is_value p.shard_of p.keys p.bytes s p.shards ≡ true) where
    found : (i : ℕ) → i < p.shards → ShardOf is_value p (shard i) i (read_arena p s i)
    found i l =
        let h = z.header in
        let m = long i l in
        subst (ShardOf is_value p (shard i) i) (sym (here i l))
        (shard-found is_value p (shard i) i (part-octets s (i * p.bytes) p.bytes b) (omega arith) (long i l) (each-passes p.shards e i l))

    fine : (i : ℕ) → FineRow is_value p i (read_arena p s i)
    unfolding read_arena
    fine i =
        by_test (ltb i p.shards) (λ q. (found i (ltb-true i p.shards q)).fine) (λ q. rw q (record { sound = sound-nil p i; fits = tt }))

    -- the shards' bytes, one after the other
    written : (m : ℕ) → m ≤ p.shards → enc_shards p.bytes m (read_arena p s) ≡ take (m * p.bytes) s
    unfolding enc_shards part
    written zero l = let e : 0 * p.bytes ≡ 0 = omega arith in ap (λ (i : ℕ). take i s) (sym e)
    written (suc m) l =
        let g = found m l in
        let own : enc_shard p.bytes (read_arena p s m) ≡ shard m = ap (λ (i : ℕ). enc_shard i (read_arena p s m)) (sym (long m l)) ∙ g.bytes in
        let more : m * p.bytes + p.bytes ≡ suc m * p.bytes = omega arith in
        ap₂ (λ (x y : Bytes). x ++ y) (written m (omega arith)) own ∙ sym (take-add (m * p.bytes) p.bytes s) ∙ ap (λ (i : ℕ). take i s) more

    encoded : all_zero (drop (p.shards * p.bytes) s) ≡ true → encode p (length s) (read_arena p s) ≡ s
    unfolding encode
    encoded q =
        let rest : drop (p.shards * p.bytes) s ≡ zeros (length s - p.shards * p.bytes) =
        passed-zeros (drop (p.shards * p.bytes) s) q ∙ ap zeros (length-drop (p.shards * p.bytes) s) in
        ap₂ (λ (x y : Bytes). x ++ y) (written p.shards (omega arith)) (sym rest) ∙ take-append-drop (p.shards * p.bytes) s

  passes-image : arena_ok is_value p s ≡ true → is_image is_value p s ≡ true
  unfolding arena_ok is_image
  passes-image e =
      let w = every-yes _ e in
      let back = encoded w.1.0 w.0 in
      yes-every _ (yes-rows is_value p p.shards (read_arena p s) (fine w.1.0), (ap (λ (x : Bytes). same x s) back ∙ same_refl s, tt))

  -- ---- and an image passes

  module _ (g : Image is_value p s (read_arena p s)) where
    within : (i : ℕ) → 16 + row_bytes (read_arena p s i) ≤ p.bytes
    within i = let l = (g.formed.fine i).sound.light in let h = z.header in omega arith

    shard-is : (i : ℕ) → i < p.shards → enc_shard p.bytes (read_arena p s i) ≡ shard i
    shard-is i l =
        sym (shard-part p (length s) i (read_arena p s) l within) ∙ ap (λ (x : Bytes). part x (i * p.bytes) p.bytes) g.bytes

    shard-ok : (i : ℕ) → i < p.shards → shard_ok is_value p.shard_of p.keys (shard i) i ≡ true
    shard-ok i l =
        let m = long i l in
        let h = z.header in
        let small = z.small in
        shard-passes is_value p (shard i) i (omega arith) (omega arith) m (read_arena p s i)
        (record { fine = g.formed.fine i; bytes = ap (λ (j : ℕ). enc_shard j (read_arena p s i)) m ∙ shard-is i l })

    shards-ok : (n : ℕ) → n ≤ p.shards → shards_ok is_value p.shard_of p.keys p.bytes s n ≡ true
    unfolding shards_ok
    shards-ok zero l = refl
    shards-ok (suc n) l = yes-every _ (shard-ok n l, (shards-ok n (omega arith), tt))

    rest-zero : all_zero (drop (p.shards * p.bytes) s) ≡ true
    unfolding encode
    rest-zero =
        ap all_zero
        (ap (drop (p.shards * p.bytes)) (sym g.bytes)
        ∙ drop_at (enc_shards p.bytes p.shards (read_arena p s)) (zeros (length s - p.shards * p.bytes)) (p.shards * p.bytes)
        (length-shards p.bytes p.shards (read_arena p s) within))
        ∙ zeros-pass (length s - p.shards * p.bytes)

  image-passes : is_image is_value p s ≡ true → arena_ok is_value p s ≡ true
  unfolding arena_ok is_image
  image-passes e =
      let g : Image is_value p s (read_arena p s) = read-image is_value p s (every-yes _ e) in
      yes-every _ (rest-zero g, (shards-ok g p.shards (omega arith), tt))

  -- the check is the definition
  pub check-law : arena_ok is_value p s ≡ is_image is_value p s
  check-law = same_truth (arena_ok is_value p s) (is_image is_value p s) passes-image image-passes
