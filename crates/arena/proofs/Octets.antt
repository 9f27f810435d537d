-- The keys, command keys and values of an arena whose bytes are bytes (below 256, as a slice's are) are such too. Assumes nothing.
use Rattle.std.proofs.Common.{sym, subst, arith, get_or-append-add, ltb-true, ltb-false}
use Rattle.std.specs.Prelude.{ℕ, ◌+◌, ◌*◌, ◌-◌, ◌<◌, List, [], ◌∷◌, ◌++◌, length, ltb}
use Rattle.std.proofs.Math.ListN.{get_or-append, get_or-eq_default}
use Rattle.buffer.specs.Cases.{by_test}
use Rattle.buffer.specs.Same.{Bytes}
use Rattle.buffer.specs.Field.{Octets}
use Rattle.book.specs.Book.{Setup, Entry, Item, Row, lookup, store, invalidate, Event, on, invalidate_all, new_epoch}
use Rattle.book.specs.Each.{Each}
use Rattle.format.specs.Lists.{All}
use Rattle.arena.specs.Layout.{zeros, head, item_head, enc_entry, enc_entries, enc_item, enc_items, enc_shard, enc_shards, encode}
use Rattle.arena.proofs.Around.{around}
use Rattle.arena.proofs.Stores.{storing}

-- the arguments of an event are bytes
abbrev pub EventOctets : Event → Type 0
EventOctets (on (lookup k c t e)) = Octets k × Octets c
EventOctets (on (store k c v x e)) = Octets k × (Octets c × Octets v)
EventOctets (on (invalidate k)) = Octets k
EventOctets invalidate_all = Unit {0}
EventOctets new_epoch = Unit {0}

-- the first of two lists, and the second
pub octets-front : (a b : Bytes) → Octets (a ++ b) → Octets a
octets-front a b w i =
    by_test (ltb i (length a))
    (λ e. subst (λ (z : ℕ). z < 256) (get_or-append a b 0 i (ltb-true i (length a) e)) (w i))
    (λ e. subst (λ (z : ℕ). z < 256) (sym (get_or-eq_default a 0 (ltb-false i (length a) e))) (omega arith))

pub octets-back : (a b : Bytes) → Octets (a ++ b) → Octets b
octets-back a b w i = subst (λ (z : ℕ). z < 256) (get_or-append-add a b i 0) (w (length a + i))

-- an entry's command key and value
entry-octets : (en : Entry) → Octets (enc_entry en) → Octets en.command × Octets en.value
unfolding enc_entry
entry-octets en w =
    let body : Octets (en.command ++ en.value) = octets-back (head (length en.command) (length en.value)) (en.command ++ en.value) w in
    (octets-front en.command en.value body, octets-back en.command en.value body)

-- the stores of an item's entries
entries-octets : (it : Item) (ens : List Entry) → Octets it.key → Octets (enc_entries ens) → All (λ en. EventOctets (on (storing it en))) ens
unfolding enc_entries
entries-octets it [] k w = tt
entries-octets it (en ∷ ens) k w = (
  (k, entry-octets en (octets-front (enc_entry en) (enc_entries ens) w)),
  entries-octets it ens k (octets-back (enc_entry en) (enc_entries ens) w),
)

item-octets : (it : Item) → Octets (enc_item it) → All (λ en. EventOctets (on (storing it en))) it.entries
unfolding enc_item
item-octets it w =
    let body : Octets (it.key ++ enc_entries it.entries) = octets-back (item_head _ _ _ _ _) (it.key ++ enc_entries it.entries) w in
    entries-octets it it.entries (octets-front it.key (enc_entries it.entries) body) (octets-back it.key (enc_entries it.entries) body)

items-octets : (row : Row) → Octets (enc_items row) → Each (λ it. All (λ en. EventOctets (on (storing it en))) it.entries) row
unfolding enc_items
items-octets [] w = tt
items-octets (it ∷ row) w =
    (item-octets it (octets-front (enc_item it) (enc_items row) w), items-octets row (octets-back (enc_item it) (enc_items row) w))

shard-octets : (n : ℕ) (row : Row) → Octets (enc_shard n row) → Each (λ it. All (λ en. EventOctets (on (storing it en))) it.entries) row
unfolding enc_shard
shard-octets n row w =
    items-octets row (octets-front (enc_items row) _ (octets-back (head (length row) _) (enc_items row ++ _) w))

-- the stores of every shard's items
pub arena-octets : (p : Setup) (n : ℕ) (rows : ℕ → Row) → Octets (encode p n rows) → (s : ℕ) → s < p.shards
    → Each (λ it. All (λ en. EventOctets (on (storing it en))) it.entries) (rows s)
unfolding encode
arena-octets p n rows w s h =
    let g = around p.bytes p.shards s rows (zeros (n - p.shards * p.bytes)) h in
    let split : Octets (enc_shards p.bytes s rows ++ (enc_shard p.bytes (rows s) ++ g.behind)) = subst Octets g.whole w in
    shard-octets p.bytes (rows s)
    (octets-front (enc_shard p.bytes (rows s)) g.behind (octets-back (enc_shards p.bytes s rows) (enc_shard p.bytes (rows s) ++ g.behind) split))
