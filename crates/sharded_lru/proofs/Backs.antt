-- What each function of one shard brings back, as what the function over all shards ensures. Assumes nothing more than `Lent`.
use mathlib.Core.Path.{◌≡◌, sym, ap, ◌∙◌, subst}
use Prim.Native.Nat.{ℕ, ◌+◌, ◌-◌, ◌*◌, ◌^◌, ◌<◌}
use native.Mathlib.Omega.{arith}
use mathlib.Core.Bool.{Bool, true, cond}
use lib.ListN.{length}
use Rattle.buffer.specs.Same.{Bytes}
use Rattle.buffer.specs.Part.{part, put}
use Rattle.buffer.specs.PartLaws.{part-part, part-put-inside, length-put}
use Rattle.config.specs.declared.Settings.{Settings}
use Rattle.siphash.specs.Shard.{shard_of}
use Rattle.resp3.specs.Ends.{is_value}
use Rattle.book.specs.Book.{Row, stored, no_space, lookup, store, on, key_of, effect_on}
use Rattle.book.proofs.Trace.{row_here}
use Rattle.arena.specs.Layout.{enc_shard}
use Rattle.arena.specs.SetupOf.{setup_of}
use Rattle.arena.specs.Place.{shard_place, arena_place}
use Rattle.shard_lookup.specs.Looked.{lookup_on, Told, BeginsAt}
use Rattle.shard_lookup.specs.declared.Looked.{Looked}
use Rattle.shard_store.specs.Store.{store_on, Leaves, Storable}
use Rattle.sharded_lru.specs.Lent.{setup_now, Lent, effect_in, rows_after}
use Rattle.sharded_lru.specs.Placed.{placed_at, Within, told-within, told-placed, begins-placed}
use Rattle.sharded_lru.specs.Keeps.{may-store}
use Rattle.sharded_lru.proofs.Parts.{lent_part, back_part, back-put, home_ends, key-long, key-back-long, key_back}

module _ (g : Settings) (s : Bytes) (rows : ℕ → Row) (w : Lent g s rows) (k c : Bytes) (t e from : ℕ) (a : from ≡ shard_of k g.shards * g.bytes) where
  -- its answer's places are within the shard
  pub told_here : (r : Looked) → Told (lent_part g s from) (lookup_on k c t e (rows (shard_of k g.shards))) r → Within g.bytes r
  told_here r l =
      subst (λ (n : ℕ). Within n r) (key-long g s rows w k from a) (told-within (lent_part g s from) (lookup_on k c t e (rows (shard_of k g.shards))) r l)

  -- what a lookup on the shard would answer, with places in the arena
  pub peek-told : (r : Looked) → Told (lent_part g s from) (lookup_on k c t e (rows (shard_of k g.shards))) r
      → Told s (effect_in (setup_now g) (lookup k c t e) rows) (placed_at from r)
  unfolding effect_on setup_of key_of part
  peek-told r l =
      let n = key-long g s rows w k from a in
      let z = home_ends g s rows w k from a in
      told-placed s (lent_part g s from) from (effect_in (setup_now g) (lookup k c t e) rows) r (omega arith)
      (λ i m h. sym (part-part s from (from + g.bytes - from) i m (omega arith))) l

  -- a lookup left the bytes u and answered r
  abbrev Looks : Bytes → Looked → Type 0
  Looks u r =
      (u ≡ enc_shard (length (lent_part g s from)) (lookup_on k c t e (rows (shard_of k g.shards))).row)
      × Told u (lookup_on k c t e (rows (shard_of k g.shards))) r
      × BeginsAt (shard_place k c (lookup_on k c t e (rows (shard_of k g.shards))).row) r

  looks-long : (u : Bytes) (r : Looked) → Looks u r → length u ≡ g.bytes
  unfolding effect_on setup_of key_of
  looks-long u r l = key-back-long g s rows w (lookup k c t e) from a tt u l.0

  pub told_back : (u : Bytes) (r : Looked) → Looks u r → Within g.bytes r
  told_back u r l =
      subst (λ (n : ℕ). Within n r) (looks-long u r l) (told-within u (lookup_on k c t e (rows (shard_of k g.shards))) r l.1)

  -- a place in the shard's row that it leaves, as a place in all rows that it leaves
  place-back : from + shard_place k c (lookup_on k c t e (rows (shard_of k g.shards))).row
      ≡ arena_place (setup_now g) k c (rows_after (setup_now g) (on (lookup k c t e)) rows)
  unfolding effect_on setup_of key_of rows_after arena_place
  place-back =
      ap (λ (i : ℕ). i + shard_place k c (lookup_on k c t e (rows (shard_of k g.shards))).row) a
      ∙ ap (λ (row : Row). shard_of k g.shards * g.bytes + shard_place k c row) (sym (row_here (shard_of k g.shards) _ rows))

  -- with places in the arena that it leaves
  pub lookup-back : (u : Bytes) (r : Looked) → Looks u r
      → Lent g (back_part g s from u) (rows_after (setup_now g) (on (lookup k c t e)) rows)
      × Told (back_part g s from u) (effect_in (setup_now g) (lookup k c t e) rows) (placed_at from r)
      × BeginsAt (arena_place (setup_now g) k c (rows_after (setup_now g) (on (lookup k c t e)) rows)) (placed_at from r)
  unfolding effect_on setup_of key_of
  lookup-back u r l =
      let f = effect_in (setup_now g) (lookup k c t e) rows in
      let n : length u ≡ g.bytes = looks-long u r l in
      let z = home_ends g s rows w k from a in
      let b : back_part g s from u ≡ put s from u = back-put g s from u n in
      let m : length (put s from u) ≡ length s = length-put s u from (omega arith) in (
        key_back g s rows w (lookup k c t e) from a tt u l.0,
        subst (λ (y : Bytes). Told y f (placed_at from r)) (sym b)
            (told-placed (put s from u) u from f r (omega arith) (λ i j h. part-put-inside s u from i j (omega arith) h) l.1),
        subst (λ (i : ℕ). BeginsAt i (placed_at from r)) place-back (begins-placed from _ r l.2),
      )

module _ (g : Settings) (s : Bytes) (rows : ℕ → Row) (w : Lent g s rows) where
  pub store-back : (k c v : Bytes) (x e from : ℕ) → from ≡ shard_of k g.shards * g.bytes → Storable k c v → is_value v ≡ true → x < 2 ^ 64 → e < 2 ^ 64
      → (t : Bytes) (r : Bool) → Leaves (lent_part g s from) t r (store_on g.keys (length (lent_part g s from)) k c v x e (rows (shard_of k g.shards)))
      → Lent g (back_part g s from t) (rows_after (setup_now g) (on (store k c v x e)) rows)
      × (cond r stored no_space ≡ (effect_in (setup_now g) (store k c v x e) rows).answer)
  unfolding effect_on setup_of key_of
  store-back k c v x e from a o i hx he t r l =
      let m : Leaves (lent_part g s from) t r (store_on g.keys g.bytes k c v x e (rows (shard_of k g.shards))) =
      subst (λ (n : ℕ). Leaves (lent_part g s from) t r (store_on g.keys n k c v x e (rows (shard_of k g.shards)))) (key-long g s rows w k from a) l in
      (key_back g s rows w (store k c v x e) from a (may-store k c v x e o i hx he) t m.bytes, m.answer)
