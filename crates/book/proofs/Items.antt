-- Laws of specs/Items.antt. What each event makes of each key's item, as an equation. Assumes that no row has a key twice, as in every reachable book.
use Rattle.std.specs.Prelude.{◌≡◌, ℕ, Bool, true, false, cond, ◌∷◌, length, eqb, leb}
use Rattle.std.proofs.Math.Path.{refl}
use Rattle.std.proofs.Math.Option.{Option, none, some}
use Rattle.std.proofs.Common.{eqb-true}
use Rattle.buffer.specs.Cases.{by_test}
use Rattle.buffer.specs.Same.{Bytes, same}
use Rattle.buffer.specs.SameLaws.{same_refl, same-eq}
use Rattle.book.specs.Book.{Item, Row, Setup, Book, Keyed, lookup, store, invalidate, Event, on, invalidate_all, new_epoch, find, without}
use Rattle.book.specs.Book.{value_for, current, serve, lookup_item, new_item, updated, room_for_one, stored_row, fits, if_fits, key_of, effect_on, put}
use Rattle.book.specs.Book.{effect, after}
use Rattle.book.proofs.Rows.{other, same-comm, find-without, find-without-other, found-key, find-replace, find-replace-other, is_oldest, find-without_oldest}
use Rattle.book.specs.Sound.{Distinct}
use Rattle.book.specs.Trace.{SoundBook}
use Rattle.book.proofs.Trace.{row_here, row-elsewhere}
use Rattle.book.specs.Residence.{item_of, is_stored}
use Rattle.book.specs.Items.{if_current}

-- a store of the key that is kept updates the item under its epoch, or brings a new one
unfoldable pub stored_item : Bytes → Bytes → Bytes → ℕ → ℕ → Option Item → Item
stored_item k c v x e none = new_item k c v x e
stored_item k c v x e (some it) = cond (eqb e it.epoch) (updated c v x it) (new_item k c v x e)

-- the key has no item
unfoldable pub absent : Option Item → Bool
absent none = true
absent (some it) = false

-- a store of j, if it is kept, drops k: j is absent, the row full, and k its oldest
unfoldable pub evicts : Setup → Bytes → Bytes → Row → Bool
evicts p k j row = cond (absent (find j row)) (cond (leb p.keys (length row)) (is_oldest k row) false) false

-- what an event in k's shard, with this row, makes of k's item
unfoldable pub turned_in : Setup → Bytes → Keyed → Row → Option Item → Option Item
turned_in p k (lookup j c t e) row o = cond (same j k) (if_current t e o) o
turned_in p k (store j c v x e) row o =
    cond (is_stored (effect_on p (store j c v x e) row).answer)
    (cond (same j k) (some (stored_item k c v x e o)) (cond (evicts p k j row) none o)) o
turned_in p k (invalidate j) row o = cond (same j k) none o

-- what an event makes of k's item
unfoldable pub turned : Setup → Bytes → Event → Book → Option Item
turned p k (on q) bk =
    cond (eqb (p.shard_of k) (p.shard_of (key_of q))) (turned_in p k q (bk.rows (p.shard_of k)) (item_of p k bk)) (item_of p k bk)
turned p k invalidate_all bk = none
turned p k new_epoch bk = item_of p k bk

-- one name that opens what an event makes of an item
unfoldable pub turned-defs : Unit {0}
unfolding turned turned_in key_of if_current stored_item
turned-defs = tt

-- ---- it holds: lookups

-- a lookup of k keeps its current item
find-lookup : (k c : Bytes) (t e : ℕ) (row : Row) (o : Option Item) → find k row ≡ o → find k (lookup_item o k c t e row).row ≡ if_current t e o
unfolding lookup_item if_current serve find
find-lookup k c t e row none f = f
find-lookup k c t e row (some it) f =
    by_test (current t e it) (λ l. rw l (at (value_for c it.entries))) (λ l. rw l (find-without k row))
  where
    at : (o : Option Bytes) → find k (serve o (it ∷ without k row)).row ≡ some it
    at none = rw (found-key k row it f)
    at (some v) = rw (found-key k row it f)

-- a lookup of another key leaves k's item
find-lookup-other : (k j c : Bytes) (t e : ℕ) (row : Row) → same j k ≡ false → (o : Option Item) → find j row ≡ o
    → find k (lookup_item o j c t e row).row ≡ find k row
unfolding lookup_item serve find
find-lookup-other k j c t e row d none f = refl
find-lookup-other k j c t e row d (some it) f =
    by_test (current t e it) (λ l. rw l (at (value_for c it.entries))) (λ l. rw l (find-without-other j k row d))
  where
    front : find k (it ∷ without j row) ≡ find k row
    front = rw (other j k it.key d (found-key j row it f)) (find-without-other j k row d)

    at : (o : Option Bytes) → find k (serve o (it ∷ without j row)).row ≡ find k row
    at none = front
    at (some v) = front

-- ---- stores

-- a store of k that is kept has the stored item for k's
find-store : (n : ℕ) (k c v : Bytes) (x e : ℕ) (row : Row) (o : Option Item) → find k row ≡ o
    → find k (stored_row n o k c v x e row) ≡ some (stored_item k c v x e o)
unfolding stored_row stored_item find
find-store n k c v x e row none f = rw (same_refl k)
find-store n k c v x e row (some it) f =
    by_test (eqb e it.epoch) (λ l. rw l (find-replace k (updated c v x it) row it f (found-key k row it f)))
    (λ l. rw (l, same_refl k))

-- a store of another key drops k's item or leaves it
find-store-other : (p : Setup) (k j c v : Bytes) (x e : ℕ) (row : Row) → Distinct row → same j k ≡ false → (o : Option Item) → find j row ≡ o
    → find k (stored_row p.keys o j c v x e row)
    ≡ cond (cond (absent o) (cond (leb p.keys (length row)) (is_oldest k row) false) false) none (find k row)
unfolding stored_row absent find room_for_one
find-store-other p k j c v x e row w d none f =
    by_test (leb p.keys (length row)) (λ l. rw (same-comm k j, d, l) (find-without_oldest k row w)) (λ l. rw (same-comm k j, d, l))
find-store-other p k j c v x e row w d (some it) f =
    by_test (eqb e it.epoch) (λ l. rw l (find-replace-other j k (updated c v x it) row d (found-key j row it f)))
    (λ l. rw (l, same-comm k j, d) (find-without-other j k row d))

-- so a store, kept or not
find-if_fits : (p : Setup) (k j c v : Bytes) (x e : ℕ) (row : Row) → Distinct row → (b : Bool)
    → find k (if_fits b (stored_row p.keys (find j row) j c v x e row) row).row
    ≡ cond (is_stored (if_fits b (stored_row p.keys (find j row) j c v x e row) row).answer)
    (cond (same j k) (some (stored_item k c v x e (find k row))) (cond (evicts p k j row) none (find k row))) (find k row)
unfolding if_fits is_stored evicts
find-if_fits p k j c v x e row w true =
    by_test (same j k) (λ l. rw (l, same-eq j k l) (find-store p.keys k c v x e row (find k row) refl))
    (λ l. rw l (find-store-other p k j c v x e row w l (find j row) refl))
find-if_fits p k j c v x e row w false = refl

-- ---- all events

-- a lookup's part, in any row
pub lookup-in : (k j c : Bytes) (t e : ℕ) (row : Row)
    → find k (lookup_item (find j row) j c t e row).row ≡ cond (same j k) (if_current t e (find k row)) (find k row)
lookup-in k j c t e row =
    by_test (same j k) (λ l. rw (l, same-eq j k l) (find-lookup k c t e row (find k row) refl))
    (λ l. rw l (find-lookup-other k j c t e row l (find j row) refl))

-- so every event with a key, in a row with no key twice
turned-in : (p : Setup) (k : Bytes) (q : Keyed) (row : Row) → Distinct row → find k (effect_on p q row).row ≡ turned_in p k q row (find k row)
unfolding effect_on turned_in
turned-in p k (lookup j c t e) row w = lookup-in k j c t e row
turned-in p k (store j c v x e) row w = find-if_fits p k j c v x e row w (fits p.bytes (stored_row p.keys (find j row) j c v x e row))
turned-in p k (invalidate j) row w =
    by_test (same j k) (λ l. rw (l, same-eq j k l) (find-without k row)) (λ l. rw l (find-without-other j k row l))

-- the key's item after an event
pub item-after : (p : Setup) (k : Bytes) (ev : Event) (bk : Book) → SoundBook p bk → item_of p k (after p ev bk) ≡ turned p k ev bk
unfolding item_of after put effect turned
item-after p k (on q) bk w =
    by_test (eqb (p.shard_of k) (p.shard_of (key_of q)))
    (λ l.
    rw (l, ← (eqb-true (p.shard_of k) (p.shard_of (key_of q)) l), row_here)
    (turned-in p k q (bk.rows (p.shard_of k)) (w (p.shard_of k)).keys))
    (λ l. rw (l, row-elsewhere))
item-after p k invalidate_all bk w = unfold find in refl
item-after p k new_epoch bk w = refl
