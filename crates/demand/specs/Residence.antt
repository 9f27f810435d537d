-- Residences as demand 3's statement has them (rules B13, D2): a residence of a key that runs at the end of a trace, told from its beginning on, with its epoch
-- and its stores. That the book's own words (book/specs/Residence.antt) say the same is shown in Stays.antt. Traces have their latest event first. Assumes
-- nothing: these are definitions. Letters: p the book's setup, bk the book at the start, k key, c command key, t clock, e epoch, v value, h trace, w a store.
use Rattle.std.specs.Prelude.{◌≡◌, ℕ, ◌≤◌, false, List, [], ◌∷◌}
use Rattle.std.proofs.Math.Option.{some}
use Rattle.buffer.specs.Same.{Bytes}
use Rattle.book.specs.Book.{Setup, Book, Event, stored, answer_to}
use Rattle.book.specs.Calls.{run}
use Rattle.book.specs.Residence.{item_of, has_under, ends, KeptStore, opening, latest_under}

module _ (p : Setup) (bk : Book) (k : Bytes) where
  -- after the trace, this store of the key is kept
  abbrev pub Kept : List Event → ℕ → KeptStore → Type 0
  Kept h e w = answer_to p (opening k e w) (run p bk h) ≡ stored

  -- a residence of the key runs after the trace, under this epoch, with these stores, the latest first
  pub data Runs : List Event → ℕ → List KeptStore → Type 0 where
    -- it begins: a store is kept where the key had no item under its epoch
    begins : (h : List Event) (e : ℕ) (w : KeptStore) → Kept h e w → has_under e (item_of p k (run p bk h)) ≡ false → Runs (opening k e w ∷ h) e (w ∷ [])
    -- it goes on: an event does not end the item's stay, and is a store of the key that is kept, or none
    stores : (h : List Event) (e : ℕ) (ws : List KeptStore) → Runs h e ws → (f : ℕ) (w : KeptStore) → Kept h f w
        → ends p k (opening k f w) (run p bk h) ≡ false → Runs (opening k f w ∷ h) e (w ∷ ws)
    passes : (h : List Event) (e : ℕ) (ws : List KeptStore) → Runs h e ws → (ev : Event) → ((f : ℕ) (w : KeptStore) → ev ≡ opening k f w → Kept h f w → ⊥)
        → ends p k ev (run p bk h) ≡ false → Runs (ev ∷ h) e ws

  -- a lookup after the trace gets v: a residence of the key runs under its epoch, its latest store's expiry is not before the clock, and v is the value of the
  -- latest store under the command key
  pub record ServedBy (h : List Event) (c : Bytes) (t e : ℕ) (v : Bytes) : Type 0 where
    pub last : KeptStore
    pub others : List KeptStore
    pub runs : Runs h e (last ∷ others)
    pub in-time : t ≤ last.expiry
    pub latest : latest_under c (last ∷ others) ≡ some v
