-- At its place stands the value: the part of the encoded shard, and of the encoded arena, that begins there and is as long as the value is the value. So what
-- is told of a place (Place.antt) is told of the entry's own bytes. Assumes that the key's item has a value for the command key.
use Rattle.std.specs.Prelude.{◌≡◌, ℕ, ◌+◌, ◌*◌, ◌≤◌, Bool, true, false}
use Rattle.std.proofs.Math.Path.{sym, ap}
use Rattle.std.proofs.Common.{◌∙◌, length-append}
use native.Mathlib.Omega.{arith}
use Rattle.std.proofs.Math.Option.{some, none-ne-some, some-injective}
use mathlib.Core.List.{List, [], ◌∷◌, ◌++◌, append_assoc}
use Rattle.std.proofs.Math.ListN.{length}
use Rattle.buffer.specs.Cases.{by_test}
use Rattle.buffer.specs.Same.{Bytes, same}
use Rattle.buffer.specs.Part.{part}
use Rattle.buffer.specs.PartLaws.{part-past, part-part}
use Rattle.book.specs.Book.{Setup, Entry, Item, Row, find, value_for, entry_bytes, row_bytes}
use Rattle.book.proofs.Trace.{Proper}
use Rattle.arena.specs.Layout.{head, item_head, enc_entry, enc_entries, enc_item, enc_items, enc_shard, encode}
use Rattle.arena.proofs.Length.{length-head, length-item_head, length-entry, length-item}
use Rattle.arena.proofs.Read.{entry_value}
use Rattle.arena.proofs.Around.{shard-part}
use Rattle.arena.specs.Tests.{WellFormed}
use Rattle.arena.specs.Image.{Sized}
use Rattle.arena.specs.Place.{entries_place, items_place, shard_place, arena_place}

-- ---- among entries

module _ (c v : Bytes) where
  entries-right : (ens : List Entry) (Y : Bytes) → value_for c ens ≡ some v → part (enc_entries ens ++ Y) (entries_place c ens) (length v) ≡ v
  unfolding value_for entries_place enc_entries
  entries-right [] Y f = absurd (none-ne-some v f)
  entries-right (en ∷ ens) Y f =
      let e : (enc_entry en ++ enc_entries ens) ++ Y ≡ enc_entry en ++ (enc_entries ens ++ Y) = append_assoc (enc_entry en) (enc_entries ens) Y in
      by_test (same c en.command)
      (λ q.
      let i : en.value ≡ v = some-injective en.value v (rw q at f) in
      rw (q, e, sym i) (entry_value en (enc_entries ens ++ Y)))
      (λ q. rw (q, e) (part-past (enc_entry en) (enc_entries ens ++ Y) _ _ _ (length-entry en) ∙ entries-right ens Y (rw q at f)))

  entries-end : (ens : List Entry) → value_for c ens ≡ some v → entries_place c ens + length v ≤ entry_bytes ens
  unfolding value_for entries_place entry_bytes
  entries-end [] f = absurd (none-ne-some v f)
  entries-end (en ∷ ens) f =
      by_test (same c en.command)
      (λ q.
      let i : length en.value ≡ length v = ap length (some-injective en.value v (rw q at f)) in
      rw q (omega arith))
      (λ q. let l = entries-end ens (rw q at f) in rw q (omega arith))

  -- ---- among items

  module _ (k : Bytes) (it : Item) (g : value_for c it.entries ≡ some v) where
    -- the first item with the key is `it`
    first : (jt : Item) (row : Row) → same k jt.key ≡ true → find k (jt ∷ row) ≡ some it → it ≡ jt
    unfolding find
    first jt row q f = sym (some-injective jt it (rw q at f))

    -- or it is among the others
    later : (jt : Item) (row : Row) → same k jt.key ≡ false → find k (jt ∷ row) ≡ some it → find k row ≡ some it
    unfolding find
    later jt row q f = rw q at f

    -- the value within its item
    item-right : (Y : Bytes) → part (enc_item it ++ Y) (32 + length it.key + entries_place c it.entries) (length v) ≡ v
    unfolding enc_item
    item-right Y =
        let H : Bytes = item_head (length it.key) (length it.entries) it.epoch it.expiry (entry_bytes it.entries) in
        let e : enc_item it ++ Y ≡ (H ++ it.key) ++ (enc_entries it.entries ++ Y) = simp append_assoc in
        let n : length (H ++ it.key) ≡ 32 + length it.key = simp (length-append, length-item_head) in
        rw e (part-past (H ++ it.key) (enc_entries it.entries ++ Y) _ _ _ n ∙ entries-right it.entries Y g)

    items-right : (row : Row) (Y : Bytes) → find k row ≡ some it → part (enc_items row ++ Y) (items_place k c row) (length v) ≡ v
    unfolding items_place enc_items
    items-right [] Y f = absurd (none-ne-some it (unfold find in f))
    items-right (jt ∷ row) Y f =
        let e : (enc_item jt ++ enc_items row) ++ Y ≡ enc_item jt ++ (enc_items row ++ Y) = append_assoc (enc_item jt) (enc_items row) Y in
        by_test (same k jt.key)
        (λ q. rw (q, e, sym (first jt row q f)) (item-right (enc_items row ++ Y)))
        (λ q. rw (q, e) (part-past (enc_item jt) (enc_items row ++ Y) _ _ _ (length-item jt) ∙ items-right row Y (later jt row q f)))

    items-end : (row : Row) → find k row ≡ some it → items_place k c row + length v ≤ row_bytes row
    unfolding items_place row_bytes
    items-end [] f = absurd (none-ne-some it (unfold find in f))
    items-end (jt ∷ row) f =
        by_test (same k jt.key)
        (λ q. let l = entries-end it.entries g in rw (q, sym (first jt row q f)) (omega arith))
        (λ q. let l = items-end row (later jt row q f) in rw q (omega arith))

    -- ---- in the shard

    -- the value's bytes in a shard of n bytes
    pub shard-right : (n : ℕ) (row : Row) → find k row ≡ some it → part (enc_shard n row) (shard_place k c row) (length v) ≡ v
    unfolding shard_place enc_shard
    shard-right n row f =
        part-past (head (length row) (row_bytes row)) _ 16 (items_place k c row) (length v) (length-head (length row) (row_bytes row)) ∙ items-right row _ f

    -- they are within the bytes that the row takes
    pub shard-end : (row : Row) → find k row ≡ some it → shard_place k c row + length v ≤ 16 + row_bytes row
    unfolding shard_place
    shard-end row f = let l = items-end row f in omega arith

    -- ---- in the arena

    -- the value's bytes in an arena of n bytes
    pub arena-right : (is_value : Bytes → Bool) (p : Setup) (n : ℕ) → Sized p n → Proper p → (rows : ℕ → Row) → WellFormed is_value p rows
        → find k (rows (p.shard_of k)) ≡ some it → part (encode p n rows) (arena_place p k c rows) (length v) ≡ v
    unfolding arena_place
    arena-right is_value p n z o rows w f =
        let s = p.shard_of k in
        let within : (i : ℕ) → 16 + row_bytes (rows i) ≤ p.bytes = λ i. let l = (w.fine i).sound.light in let h = z.header in omega arith in
        let l = within s in
        let m = shard-end (rows s) f in
        sym (part-part (encode p n rows) (s * p.bytes) p.bytes (shard_place k c (rows s)) (length v) (omega arith))
        ∙ ap (λ (t : Bytes). part t (shard_place k c (rows s)) (length v)) (shard-part p n s rows (o.in-range k) within)
        ∙ shard-right p.bytes (rows s) f

-- the place in the arena depends on the row of the key's shard alone
pub place-local : (p : Setup) (k c : Bytes) (a b : ℕ → Row) → a (p.shard_of k) ≡ b (p.shard_of k) → arena_place p k c a ≡ arena_place p k c b
unfolding arena_place
place-local p k c a b e = ap (λ (row : Row). p.shard_of k * p.bytes + shard_place k c row) e

-- and where the key's item is in front of its row, its entries alone matter
pub place-first : (k c : Bytes) (it : Item) (row : Row) → same k it.key ≡ true
    → shard_place k c (it ∷ row) ≡ 16 + (32 + length it.key + entries_place c it.entries)
unfolding shard_place items_place
place-first k c it row q = rw q
