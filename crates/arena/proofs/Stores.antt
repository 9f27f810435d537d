-- Single stores, the oldest item's first and each item's entries in their order, make any sound row from an empty one. Assumes nothing of the setup.
use Rattle.std.specs.Prelude.{◌≡◌, ℕ, ◌-◌, ◌≤◌, ◌<◌, length}
use Rattle.std.proofs.Math.Path.{refl, ap}
use Rattle.std.proofs.Common.{sym, ◌∙◌}
use native.Mathlib.Omega.{arith}
use Rattle.std.proofs.Math.Option.{none, none-ne-some}
use mathlib.Core.List.{List, [], ◌∷◌, ◌++◌, append_assoc, append-nil}
use borrow.Author.Tests.{le-leb, lt-leb}
use Rattle.buffer.specs.Cases.{by_test, eqb_same}
use Rattle.buffer.specs.Same.{Bytes, same}
use Rattle.buffer.specs.SameLaws.{same_refl, same-eq}
use Rattle.book.specs.Book.{Setup, Entry, Item, Row, find, replace, value_for, set_value, room_for_one, stored_row, entry_bytes, row_bytes, fits, if_fits}
use Rattle.book.specs.Book.{Keyed, store, effect_on}
use Rattle.book.specs.Each.{Each}
use Rattle.book.specs.Sound.{DistinctCommands, Sound}
use Rattle.format.specs.Runs.{all_append}
use Rattle.format.specs.Lists.{All}
use Rattle.arena.proofs.Pieces.{entry_bytes-append}

-- ---- the stores

-- the single store of one entry of an item
abbrev pub storing : Item → Entry → Keyed
storing it en = store it.key en.command en.value it.expiry it.epoch

-- one for each of some entries, in their order
unfoldable pub stores_of : Item → List Entry → List Keyed
stores_of it [] = []
stores_of it (en ∷ ens) = storing it en ∷ stores_of it ens

-- those that make a row: the oldest item's first
unfoldable pub making : Row → List Keyed
making [] = []
making (it ∷ row) = making row ++ stores_of it it.entries

-- what holds of every entry's store holds of those that make the row
stores-all : (P : Keyed → Type 0) (it : Item) (ens : List Entry) → All (λ en. P (storing it en)) ens → All P (stores_of it ens)
unfolding stores_of
stores-all P it [] w = tt
stores-all P it (en ∷ ens) w = (w.0, stores-all P it ens w.1)

pub making-all : (P : Keyed → Type 0) (row : Row) → Each (λ it. All (λ en. P (storing it en)) it.entries) row → All P (making row)
unfolding making
making-all P [] w = tt
making-all P (it ∷ row) w =
    all_append P (making row) (stores_of it it.entries) (making-all P row w.1) (stores-all P it it.entries w.0)

-- ---- what a store does to the row being made

-- the item with only some of its entries
abbrev with_entries : Item → List Entry → Item
with_entries it es = record { key = it.key; epoch = it.epoch; expiry = it.expiry; entries = es }

-- a command key that is not there is set at the end
pub set_new : (c v : Bytes) (es : List Entry) → value_for c es ≡ none → set_value c v es ≡ es ++ (record { command = c; value = v } ∷ [])
unfolding value_for set_value
set_new c v [] f = refl
set_new c v (en ∷ es) f =
    by_test (same c en.command) (λ e. absurd (none-ne-some en.value (sym (rw e at f))))
    (λ e. rw e (ap (λ (z : List Entry). en ∷ z) (set_new c v es (rw e at f))))

-- an entry of a list is found in it
found_in : (es : List Entry) (en : Entry) (fs : List Entry) → value_for en.command (es ++ (en ∷ fs)) ≡ none → ⊥
unfolding value_for
found_in [] en fs f = none-ne-some en.value (sym (rw (same_refl en.command) at f))
found_in (e ∷ es) en fs f =
    by_test (same en.command e.command) (λ q. none-ne-some e.value (sym (rw q at f))) (λ q. found_in es en fs (rw q at f))

-- among distinct command keys none stands before itself
not-before : (es : List Entry) (en : Entry) (fs : List Entry) → DistinctCommands (es ++ (en ∷ fs)) → value_for en.command es ≡ none
unfolding value_for
not-before [] en fs d = refl
not-before (e ∷ es) en fs d =
    by_test (same en.command e.command)
    (λ q. absurd (found_in es en fs (ap (λ (z : Bytes). value_for z (es ++ (en ∷ fs))) (same-eq en.command e.command q) ∙ d.0)))
    (λ q. rw q (not-before es en fs d.1))

-- an item with fewer entries takes fewer bytes
fewer_bytes : (it : Item) (row : Row) (es : List Entry) (en : Entry) (fs : List Entry)
    → row_bytes (with_entries it (es ++ (en ∷ [])) ∷ row) ≤ row_bytes (with_entries it (es ++ (en ∷ fs)) ∷ row)
unfolding row_bytes entry_bytes
fewer_bytes it row es en fs = omega (arith, entry_bytes-append es (en ∷ []), entry_bytes-append es (en ∷ fs))

module _ (p : Setup) where
  -- the row after some events of its shard, in their order
  unfoldable pub row_after : List Keyed → Row → Row
  row_after [] row = row
  row_after (q ∷ qs) row = row_after qs (effect_on p q row).row

  after-append : (xs ys : List Keyed) (row : Row) → row_after (xs ++ ys) row ≡ row_after ys (row_after xs row)
  unfolding row_after
  after-append [] ys row = refl
  after-append (q ∷ xs) ys row = after-append xs ys (effect_on p q row).row

  -- the first entry's store makes the item newest
  first_store : (it : Item) (en : Entry) (row : Row) → find it.key row ≡ none → length row < p.keys
      → row_bytes (with_entries it (en ∷ []) ∷ row) ≤ p.bytes - 16 → (effect_on p (storing it en) row).row ≡ with_entries it (en ∷ []) ∷ row
  unfolding effect_on stored_row room_for_one fits if_fits
  first_store it en row f n b = rw (f, lt-leb p.keys (length row) n, le-leb _ _ b)

  -- another entry's store puts it behind the others
  next-store : (it : Item) (es : List Entry) (en : Entry) (row : Row) → value_for en.command es ≡ none
      → row_bytes (with_entries it (es ++ (en ∷ [])) ∷ row) ≤ p.bytes - 16
      → (effect_on p (storing it en) (with_entries it es ∷ row)).row ≡ with_entries it (es ++ (en ∷ [])) ∷ row
  unfolding effect_on stored_row fits if_fits find replace
  next-store it es en row f b =
      rw (same_refl it.key, eqb_same it.epoch, same_refl it.key, set_new en.command en.value es f, le-leb _ _ b)

  -- so the stores of further entries add them
  add-more : (it : Item) (row : Row) (es fs : List Entry) → DistinctCommands (es ++ fs)
      → row_bytes (with_entries it (es ++ fs) ∷ row) ≤ p.bytes - 16
      → row_after (stores_of it fs) (with_entries it es ∷ row) ≡ with_entries it (es ++ fs) ∷ row
  unfolding stores_of row_after
  add-more it row es [] d b = ap (λ (z : List Entry). with_entries it z ∷ row) (sym (append-nil es))
  add-more it row es (en ∷ fs) d b =
      let less = fewer_bytes it row es en fs in
      ap (row_after (stores_of it fs)) (next-store it es en row (not-before es en fs d) (omega arith))
      ∙ add-more it row (es ++ (en ∷ [])) fs (rw append_assoc d) (rw append_assoc b)
      ∙ ap (λ (z : List Entry). with_entries it z ∷ row) (append_assoc es (en ∷ []) fs)

  -- and those of all entries make the item
  made-item : (it : Item) (row : Row) (fs : List Entry) → 1 ≤ length fs → DistinctCommands fs → find it.key row ≡ none → length row < p.keys
      → row_bytes (with_entries it fs ∷ row) ≤ p.bytes - 16 → row_after (stores_of it fs) row ≡ with_entries it fs ∷ row
  unfolding stores_of row_after
  made-item it row [] l d f n b = absurd (omega arith)
  made-item it row (en ∷ fs) l d f n b =
      let less = fewer_bytes it row [] en fs in
      ap (row_after (stores_of it fs)) (first_store it en row f n (omega arith)) ∙ add-more it row (en ∷ []) fs d b

  sound-older : (s : ℕ) (it : Item) (row : Row) → Sound p s (it ∷ row) → Sound p s row
  unfolding row_bytes
  sound-older s it row w =
      let few = w.few in
      let light = w.light in
      record { keys = w.keys.1; items = w.items.1; few = omega arith; light = omega arith }

  -- the stores of `making` make a sound row
  pub made : (s : ℕ) (row : Row) → Sound p s row → row_after (making row) [] ≡ row
  unfolding making row_after
  made s [] w = refl
  made s (it ∷ row) w =
      after-append (making row) (stores_of it it.entries) []
      ∙ ap (row_after (stores_of it it.entries)) (made s row (sound-older s it row w))
      ∙ made-item it row it.entries w.items.0.some-entry w.items.0.commands w.keys.0 w.few w.light
