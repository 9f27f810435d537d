-- Residences (rule B13 of docs/BEHAVIOUR.md): here one that still runs at the end of a trace, that is, the part of the trace from the store that brought
-- the item in, through events by none of which the item left the book. A key's history is its residences at the ends of all earlier parts of the trace.
-- A trace has its latest event first (Calls.antt). Assumes nothing: these are definitions.
use Rattle.std.specs.Prelude.{◌≡◌, ℕ, ◌≤◌, Bool, true, false, cond, not, List, [], ◌∷◌, ◌++◌, eqb}
use Rattle.std.proofs.Math.Option.{Option, none, some}
use Rattle.buffer.specs.Same.{Bytes, same}
use Rattle.book.specs.Book.{Item, Setup, Book, Answer, hit, miss, stored, no_space, invalidated, number, lookup, store, invalidate, Event, on}
use Rattle.book.specs.Book.{invalidate_all, new_epoch, find, after, answer_to}
use Rattle.book.specs.Calls.{run}

-- ---- an item's stay

-- the key's item in the book
unfoldable pub item_of : Setup → Bytes → Book → Option Item
item_of p k bk = find k (bk.rows (p.shard_of k))

-- whether there is an item, and under this epoch
unfoldable pub has_under : ℕ → Option Item → Bool
has_under e none = false
has_under e (some it) = eqb e it.epoch

-- the item is in the book no more: its key has none now, or a new one, which is under another epoch (rules B7, B8: a store keeps the item exactly where
-- its epoch is the item's)
unfoldable pub leaves : Option Item → Option Item → Bool
leaves none now = false
leaves (some it) now = not (has_under it.epoch now)

-- the event ends the stay of the key's item
unfoldable pub ends : Setup → Bytes → Event → Book → Bool
ends p k ev bk = leaves (item_of p k bk) (item_of p k (after p ev bk))

-- ---- stores that were kept

pub record KeptStore : Type 0 where
  pub command : Bytes
  pub value : Bytes
  pub expiry : ℕ

-- the answer of a store that was kept
unfoldable pub is_stored : Answer → Bool
is_stored (hit v) = false
is_stored miss = false
is_stored stored = true
is_stored no_space = false
is_stored invalidated = false
is_stored (number n) = false

-- the event, if it is a store of the key that is kept
unfoldable pub kept_by : Setup → Bytes → Event → Book → Option KeptStore
kept_by p k (on (lookup j c t e)) bk = none
kept_by p k (on (store j c v x e)) bk =
    cond (same j k)
    (cond (is_stored (answer_to p (on (store j c v x e)) bk)) (some (record { command = c; value = v; expiry = x })) none) none
kept_by p k (on (invalidate j)) bk = none
kept_by p k invalidate_all bk = none
kept_by p k new_epoch bk = none

-- one more in front, if there is one
unfoldable pub cons_if : Option KeptStore → List KeptStore → List KeptStore
cons_if none ws = ws
cons_if (some w) ws = w ∷ ws

-- the kept stores of the key in a part of the trace, the latest first; `base` is the trace before the part
unfoldable pub kept_in : Setup → Book → Bytes → List Event → List Event → List KeptStore
kept_in p bk k [] base = []
kept_in p bk k (ev ∷ since) base = cons_if (kept_by p k ev (run p bk (since ++ base))) (kept_in p bk k since base)

-- ---- residences

-- the store, under an epoch
abbrev pub opening : Bytes → ℕ → KeptStore → Event
opening k e w = on (store k w.command w.value w.expiry e)

-- no event of a part of the trace ended the stay of the key's item
abbrev pub Lasts : Setup → Book → Bytes → List Event → List Event → Type 0
Lasts p bk k [] base = Unit {0}
Lasts p bk k (ev ∷ since) base = (ends p k ev (run p bk (since ++ base)) ≡ false) × Lasts p bk k since base

-- a residence of k that runs at the end of the trace h: the store that began it was kept, the key had no item under its epoch before, and no event
-- since then ended the item's stay
pub record Residence (p : Setup) (bk : Book) (k : Bytes) (h : List Event) : Type 0 where
  pub epoch : ℕ
  pub first : KeptStore
  pub since : List Event
  pub before : List Event
  pub part : h ≡ since ++ (opening k epoch first ∷ before)
  pub kept : is_stored (answer_to p (opening k epoch first) (run p bk before)) ≡ true
  pub began : has_under epoch (item_of p k (run p bk before)) ≡ false
  pub lasts : Lasts p bk k since (opening k epoch first ∷ before)

-- the latest of some stores, of which w came first
unfoldable pub latest_of : List KeptStore → KeptStore → KeptStore
latest_of [] w = w
latest_of (u ∷ ws) w = u

-- the value of the latest store under the command key
unfoldable pub latest_under : Bytes → List KeptStore → Option Bytes
latest_under c [] = none
latest_under c (w ∷ ws) = cond (same c w.command) (some w.value) (latest_under c ws)

module _ {p : Setup} {bk : Book} {k : Bytes} {h : List Event} where
  -- the stores after the first
  unfoldable pub later_stores : Residence p bk k h → List KeptStore
  later_stores r = kept_in p bk k r.since (opening k r.epoch r.first ∷ r.before)

  -- the residence's stores, the latest first
  unfoldable pub stores_of : Residence p bk k h → List KeptStore
  stores_of r = later_stores r ++ (r.first ∷ [])

  -- its expiry: the latest store's
  unfoldable pub expiry_of : Residence p bk k h → ℕ
  expiry_of r = (latest_of (later_stores r) r.first).expiry

-- when a lookup after the trace h gets v (rule D2): a residence of the key runs that is of the lookup's epoch and has not expired at its clock, and v is
-- what was stored last under its command key
pub record ServedBy (p : Setup) (bk : Book) (h : List Event) (k c : Bytes) (t e : ℕ) (v : Bytes) : Type 0 where
  pub residence : Residence p bk k h
  pub epoch : residence.epoch ≡ e
  pub in-time : t ≤ expiry_of residence
  pub latest : latest_under c (stores_of residence) ≡ some v
