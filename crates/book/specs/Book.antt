-- The book: what the arena means. Each definition names the rule of docs/BEHAVIOUR.md that it says (B1 and so on); what is counted and the space rule stand
-- with the operation that they are about. What calls, their sequences and their shards are is in Calls.antt, what a residence is in Residence.antt;
-- sizes, hash, arena and layout are other crates', and any `Setup` here. Assumes nothing: these are definitions.
-- Letters: k key, c command key, v value, t clock, e epoch, x expiry; n a number of keys, of bytes or of shards.
use Rattle.std.specs.Prelude.{ℕ, zero, suc, ◌+◌, ◌-◌, Bool, true, false, cond, List, [], ◌∷◌, length, eqb, leb}
use Rattle.std.proofs.Math.Option.{Option, none, some}
use Rattle.buffer.specs.Same.{Bytes, same}
use Rattle.config.specs.Wrap.{wrap}

-- What size and arena length settle (rules B1, B2, B9): how many shards there are, how many keys and how many bytes each may have (16 of the bytes
-- are its header's), and which shard a key belongs to
pub record Setup : Type 0 where
  pub shards : ℕ
  pub keys : ℕ
  pub shard_of : Bytes → ℕ
  pub bytes : ℕ

-- ---- Rule B3: a shard's items in a row, the newest in front; an item's one epoch and one expiry serve all its entries

pub record Entry : Type 0 where
  pub command : Bytes
  pub value : Bytes

pub record Item : Type 0 where
  pub key : Bytes
  pub epoch : ℕ
  pub expiry : ℕ
  pub entries : List Entry

abbrev pub Row : Type 0
Row = List Item

-- the three counts of `Statistics`
pub record Counts : Type 0 where
  pub hits : ℕ
  pub misses : ℕ
  pub invalidates : ℕ

-- the row of each shard, the counts, and the next epoch number
pub record Book : Type 0 where
  pub rows : ℕ → Row
  pub counts : Counts
  pub next : ℕ

-- the book after setup, whatever the counts (rule B4)
unfoldable pub fresh : Counts → Book
fresh lent = record { rows = λ i. []; counts = lent; next = 1 }

-- ---- The key's item, and its entries

-- the key's item. A reachable row has no key twice (Sound.antt), so that this item is the only one of its key, and the next two concern it alone
-- (Rows.antt, `place`)
unfoldable pub find : Bytes → Row → Option Item
find k [] = none
find k (it ∷ row) = cond (same k it.key) (some it) (find k row)

-- the row where the key's item goes; the others stand as they were
unfoldable pub without : Bytes → Row → Row
without k [] = []
without k (it ∷ row) = cond (same k it.key) (without k row) (it ∷ without k row)

-- the row with another item in the place of the key's
unfoldable pub replace : Bytes → Item → Row → Row
replace k new [] = []
replace k new (it ∷ row) = cond (same k it.key) (new ∷ row) (it ∷ replace k new row)

-- the row where the oldest item goes
unfoldable pub without_oldest : Row → Row
without_oldest [] = []
without_oldest (it ∷ []) = []
without_oldest (it ∷ (older ∷ row)) = it ∷ without_oldest (older ∷ row)

-- the value for the command, if any
unfoldable pub value_for : Bytes → List Entry → Option Bytes
value_for c [] = none
value_for c (en ∷ ens) = cond (same c en.command) (some en.value) (value_for c ens)

-- the entries with a value for the command: in the place of the one there was, or behind the others
unfoldable pub set_value : Bytes → Bytes → List Entry → List Entry
set_value c v [] = record { command = c; value = v } ∷ []
set_value c v (en ∷ ens) = cond (same c en.command) (record { command = c; value = v } ∷ ens) (en ∷ set_value c v ens)

-- how many entries a row has
unfoldable pub row_entries : Row → ℕ
row_entries [] = 0
row_entries (it ∷ row) = length it.entries + row_entries row

-- and the first n shards
unfoldable pub all_entries : ℕ → (ℕ → Row) → ℕ
all_entries zero rows = 0
all_entries (suc n) rows = row_entries (rows n) + all_entries n rows

-- ---- What a lookup, a store and an invalidation do to their key's shard

-- what they answer: a lookup its value or a miss; a store that it was kept, or cause 11; an invalidation nothing more; a new epoch its number
pub data Answer : Type 0 where
  hit : Bytes → Answer
  miss stored no_space invalidated : Answer
  number : ℕ → Answer

-- the row they leave, their answer, and what they add to the counts
pub record Effect : Type 0 where
  pub row : Row
  pub answer : Answer
  pub adds : Counts

-- so many hits, misses and entries
abbrev pub plus : ℕ → ℕ → ℕ → Counts
plus h m i = record { hits = h; misses = m; invalidates = i }

-- whether an item may still be served (rule B5): it is of this epoch, and its expiry has not passed; at the expiry itself it has not
unfoldable pub current : ℕ → ℕ → Item → Bool
current t e it = cond (eqb e it.epoch) (leb t it.expiry) false

-- a lookup whose item is current (rule B6): with a value under the command key it hits, without one it misses; in both cases the item has come to the
-- front (`newest` is the row then). One of the two counts goes up by one (rule B11)
unfoldable pub serve : Option Bytes → Row → Effect
serve none newest = record { row = newest; answer = miss; adds = plus 0 1 0 }
serve (some v) newest = record { row = newest; answer = hit v; adds = plus 1 0 0 }

-- the whole lookup, from the key's item: none is a miss, one that is not current goes as well and its entries are counted (rules B5, B6, B11)
unfoldable pub lookup_item : Option Item → Bytes → Bytes → ℕ → ℕ → Row → Effect
lookup_item none k c t e row = record { row = row; answer = miss; adds = plus 0 1 0 }
lookup_item (some it) k c t e row =
    cond (current t e it) (serve (value_for c it.entries) (it ∷ without k row))
    (record { row = without k row; answer = miss; adds = plus 0 1 (length it.entries) })

-- the item that a store makes: this one entry, this epoch, this expiry
abbrev pub new_item : Bytes → Bytes → Bytes → ℕ → ℕ → Item
new_item k c v x e = record { key = k; epoch = e; expiry = x; entries = record { command = c; value = v } ∷ [] }

-- an item of the same epoch after a store (rule B7): the value is set among its entries, and the expiry is now that of all of them
abbrev pub updated : Bytes → Bytes → ℕ → Item → Item
updated c v x it = record { key = it.key; epoch = it.epoch; expiry = x; entries = set_value c v it.entries }

-- the row once a new key has a place (rule B8): a shard of n keys is full, and then its oldest item makes room
unfoldable pub room_for_one : ℕ → Row → Row
room_for_one n row = cond (leb n (length row)) (without_oldest row) row

-- the row after the store, the space rule aside (rules B7, B8): an item of this epoch is changed where it stands; one of another epoch is replaced by a
-- new item in front; without either a new item comes in front, for which the oldest may have to go
unfoldable pub stored_row : ℕ → Option Item → Bytes → Bytes → Bytes → ℕ → ℕ → Row → Row
stored_row n none k c v x e row = new_item k c v x e ∷ room_for_one n row
stored_row n (some it) k c v x e row =
    cond (eqb e it.epoch) (replace k (updated c v x it) row) (new_item k c v x e ∷ without k row)

-- the bytes of some entries (rule B9): 16 for each, and its two strings
unfoldable pub entry_bytes : List Entry → ℕ
entry_bytes [] = 0
entry_bytes (en ∷ ens) = 16 + length en.command + length en.value + entry_bytes ens

-- the bytes that a row takes: 32 for each item, its key, and its entries
unfoldable pub row_bytes : Row → ℕ
row_bytes [] = 0
row_bytes (it ∷ row) = 32 + length it.key + entry_bytes it.entries + row_bytes row

-- the space rule (B9): a shard of n bytes has room for this row beside its header
unfoldable pub fits : ℕ → Row → Bool
fits n row = leb (row_bytes row) (n - 16)

-- the whole store: the new row if it fits, else the old one and cause 11 (rule B9). No store is counted, nor what it drops (rule B11)
unfoldable pub if_fits : Bool → Row → Row → Effect
if_fits true new old = record { row = new; answer = stored; adds = plus 0 0 0 }
if_fits false new old = record { row = old; answer = no_space; adds = plus 0 0 0 }

-- how many entries the key's item has
unfoldable pub entries_of : Option Item → ℕ
entries_of none = 0
entries_of (some it) = length it.entries

-- a lookup is given key, command key, clock and epoch; a store key, command key, value, expiry and epoch; an invalidation its key
pub data Keyed : Type 0 where
  lookup : Bytes → Bytes → ℕ → ℕ → Keyed
  store : Bytes → Bytes → Bytes → ℕ → ℕ → Keyed
  invalidate : Bytes → Keyed

-- the key of each
unfoldable pub key_of : Keyed → Bytes
key_of (lookup k c t e) = k
key_of (store k c v x e) = k
key_of (invalidate k) = k

-- lookup and store as above; an invalidation drops the key's item and counts its entries (rules B10, B11)
unfoldable pub effect_on : Setup → Keyed → Row → Effect
effect_on p (lookup k c t e) row = lookup_item (find k row) k c t e row
effect_on p (store k c v x e) row =
    let new : Row = stored_row p.keys (find k row) k c v x e row in if_fits (fits p.bytes new) new row
effect_on p (invalidate k) row = record { row = without k row; answer = invalidated; adds = plus 0 0 (entries_of (find k row)) }

-- ---- The whole book

-- what can happen: something to one key's shard, everything dropped at once (rule B10), a new epoch (rule B12)
pub data Event : Type 0 where
  on : Keyed → Event
  invalidate_all new_epoch : Event

-- the counts with what is added, modulo 2^64 (rule G4)
unfoldable pub count : Counts → Counts → Counts
count was adds =
    record {
      hits = wrap (was.hits + adds.hits);
      misses = wrap (was.misses + adds.misses);
      invalidates = wrap (was.invalidates + adds.invalidates);
    }

-- the rows with another one for shard s
unfoldable pub set_row : ℕ → Row → (ℕ → Row) → ℕ → Row
set_row s row rows i = cond (eqb i s) row (rows i)

-- the book with the effect on shard s
unfoldable pub put : ℕ → Effect → Book → Book
put s f bk = record { rows = set_row s f.row bk.rows; counts = count bk.counts f.adds; next = bk.next }

-- the effect of a lookup, store or invalidation on the row of its key's shard
unfoldable pub effect : Setup → Keyed → Book → Effect
effect p q bk = effect_on p q (bk.rows (p.shard_of (key_of q)))

-- the book after an event; a new epoch moves the next number on by one, modulo 2^64 (rule B12)
unfoldable pub after : Setup → Event → Book → Book
after p (on q) bk = put (p.shard_of (key_of q)) (effect p q bk) bk
after p invalidate_all bk =
    record { rows = λ i. []; counts = count bk.counts (plus 0 0 (all_entries p.shards bk.rows)); next = bk.next }
after p new_epoch bk = record { rows = bk.rows; counts = bk.counts; next = wrap (bk.next + 1) }

-- what the event answers; a new epoch the number that was next
unfoldable pub answer_to : Setup → Event → Book → Answer
answer_to p (on q) bk = (effect p q bk).answer
answer_to p invalidate_all bk = invalidated
answer_to p new_epoch bk = number bk.next

-- the book after some events, in their order
unfoldable pub after_all : Setup → List Event → Book → Book
after_all p [] bk = bk
after_all p (ev ∷ evs) bk = after_all p evs (after p ev bk)

-- what each of them answers
unfoldable pub answers : Setup → List Event → Book → List Answer
answers p [] bk = []
answers p (ev ∷ evs) bk = answer_to p ev bk ∷ answers p evs (after p ev bk)

-- one name that opens every definition of this page, for cases that compute
unfoldable pub book-defs : Unit {0}
unfolding
    fresh find without replace without_oldest value_for set_value current serve lookup_item room_for_one stored_row entry_bytes row_bytes fits if_fits entries_of
    key_of effect_on count set_row put effect row_entries all_entries after answer_to
    after_all answers same
book-defs = tt
