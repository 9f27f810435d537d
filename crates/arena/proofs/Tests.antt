-- Laws of specs/Tests.antt. What the tests of Decode.antt say: each holds exactly where what it asks holds, told in the book's own terms (its Sound.antt). Assumes nothing.
use Rattle.std.specs.Prelude.{◌≡◌, Bool, true, false, List, [], ◌∷◌, map, length, eqb}
use Rattle.std.proofs.Math.Path.{refl, subst}
use Rattle.std.proofs.Common.{sym, ap, arith}
use Prim.Native.Nat.{ℕ, zero, suc, ◌^◌, ◌≤◌, ◌<◌}
use Rattle.std.proofs.lemmas.Bool.{false≢true}
use Rattle.std.proofs.Math.Option.{Option, none, some}
use borrow.Author.Tests.{leb-true, le-leb, ltb-true, lt-ltb, eqb-true, eqb-false, eq-eqb}
use Rattle.buffer.specs.Cases.{by_test}
use Rattle.buffer.specs.Same.{Bytes}
use Rattle.book.specs.Book.{Setup, Entry, Item, Row, find, value_for, fits}
use Rattle.book.specs.Sound.{Distinct, DistinctCommands, SoundItem, Sound}
use Rattle.book.specs.Each.{Each}
use Rattle.book.specs.Storable.{StorableEntries, StorableItem}
use Rattle.arena.specs.Decode.{every, absent, distinct_keys, distinct_commands, may_store, item_fits, item_fine, row_fine, rows_fine}
use Rattle.arena.specs.Tests.{FineRow, Fits}

-- each of these tests holds
abbrev pub Trues : List Bool → Type 0
Trues [] = Unit {0}
Trues (b ∷ bs) = (b ≡ true) × Trues bs

pub every-yes : (bs : List Bool) → every bs ≡ true → Trues bs
unfolding every
every-yes [] e = tt
every-yes (true ∷ bs) e = (refl, every-yes bs e)
every-yes (false ∷ bs) e = absurd (false≢true e)

pub yes-every : (bs : List Bool) → Trues bs → every bs ≡ true
unfolding every
yes-every [] w = refl
yes-every (b ∷ bs) w = rw w.0 (yes-every bs w.1)

absent-yes : {A : Type 0} (o : Option A) → absent o ≡ true → o ≡ none
absent-yes none e = refl
absent-yes (some x) e = absurd (false≢true e)

-- a test of each item
each-yes : (f : Item → Bool) (P : Item → Type 0) → ((it : Item) → f it ≡ true → P it) → (row : Row) → Trues (map f row) → Each P row
each-yes f P g [] w = tt
each-yes f P g (it ∷ row) w = (g it w.0, each-yes f P g row w.1)

yes-each : (f : Item → Bool) (P : Item → Type 0) → ((it : Item) → P it → f it ≡ true) → (row : Row) → Each P row → Trues (map f row)
yes-each f P g [] w = tt
yes-each f P g (it ∷ row) w = (g it w.0, yes-each f P g row w.1)

-- ---- the tests of keys and command keys

keys-yes : (row : Row) → distinct_keys row ≡ true → Distinct row
unfolding distinct_keys
keys-yes [] e = tt
keys-yes (it ∷ row) e = let w = every-yes _ e in (absent-yes (find it.key row) w.0, keys-yes row w.1.0)

yes-keys : (row : Row) → Distinct row → distinct_keys row ≡ true
unfolding distinct_keys
yes-keys [] w = refl
yes-keys (it ∷ row) w = yes-every _ (ap absent w.0, (yes-keys row w.1, tt))

commands-yes : (ens : List Entry) → distinct_commands ens ≡ true → DistinctCommands ens
unfolding distinct_commands
commands-yes [] e = tt
commands-yes (en ∷ ens) e = let w = every-yes _ e in (absent-yes (value_for en.command ens) w.0, commands-yes ens w.1.0)

yes-commands : (ens : List Entry) → DistinctCommands ens → distinct_commands ens ≡ true
unfolding distinct_commands
yes-commands [] w = refl
yes-commands (en ∷ ens) w = yes-every _ (ap absent w.0, (yes-commands ens w.1, tt))

module _ (is_value : Bytes → Bool) (p : Setup) where
  entries-yes : (k : Bytes) (ens : List Entry) → Trues (map (λ en. may_store is_value k en.command en.value) ens) → StorableEntries (may_store is_value) k ens
  entries-yes k [] w = tt
  entries-yes k (en ∷ ens) w = (w.0, entries-yes k ens w.1)

  yes-entries : (k : Bytes) (ens : List Entry) → StorableEntries (may_store is_value) k ens → Trues (map (λ en. may_store is_value k en.command en.value) ens)
  yes-entries k [] w = tt
  yes-entries k (en ∷ ens) w = (w.0, yes-entries k ens w.1)

  fits-yes : (it : Item) → item_fits is_value it ≡ true → (Fits is_value p) it
  unfolding item_fits
  fits-yes it e =
      let w = every-yes _ e in
      record {
        entries = entries-yes it.key it.entries (every-yes _ w.1.1.0);
        epoch = ltb-true it.epoch (2 ^ 64) w.0;
        expiry = ltb-true it.expiry (2 ^ 64) w.1.0;
      }

  yes-fits : (it : Item) → (Fits is_value p) it → item_fits is_value it ≡ true
  unfolding item_fits
  yes-fits it w =
      yes-every _ (lt-ltb _ _ w.epoch, (lt-ltb _ _ w.expiry, (yes-every _ (yes-entries it.key it.entries w.entries), tt)))

  -- what a fine item is
  abbrev Fine : ℕ → Item → Type 0
  Fine s it = SoundItem p s it × (Fits is_value p) it

  item-yes : (s : ℕ) (it : Item) → item_fine is_value p s it ≡ true → Fine s it
  unfolding item_fine
  item-yes s it e =
      let w = every-yes _ e in (
        record {
          home = eqb-true (p.shard_of it.key) s w.0;
          some-entry = leb-true 1 (length it.entries) w.1.0;
          commands = commands-yes it.entries w.1.1.0;
        },
        fits-yes it w.1.1.1.0,
      )

  yes-item : (s : ℕ) (it : Item) → Fine s it → item_fine is_value p s it ≡ true
  unfolding item_fine
  yes-item s it w =
      yes-every _ (
        eq-eqb _ _ w.0.home,
        (le-leb _ _ w.0.some-entry, (yes-commands it.entries w.0.commands, (yes-fits it w.1, tt))),
      )

  first-each : (s : ℕ) (row : Row) → Each (Fine s) row → Each (SoundItem p s) row
  first-each s [] w = tt
  first-each s (it ∷ row) w = (w.0.0, first-each s row w.1)

  second-each : (s : ℕ) (row : Row) → Each (Fine s) row → Each (Fits is_value p) row
  second-each s [] w = tt
  second-each s (it ∷ row) w = (w.0.1, second-each s row w.1)

  both-each : (s : ℕ) (row : Row) → Each (SoundItem p s) row → Each (Fits is_value p) row → Each (Fine s) row
  both-each s [] v w = tt
  both-each s (it ∷ row) v w = ((v.0, w.0), both-each s row v.1 w.1)

  row-yes : (s : ℕ) (row : Row) → row_fine is_value p s row ≡ true → (FineRow is_value p) s row
  unfolding row_fine fits
  row-yes s row e =
      let w = every-yes _ e in
      let items : Each (Fine s) row = each-yes (item_fine is_value p s) (Fine s) (item-yes s) row (every-yes _ w.1.1.0) in
      record {
        sound = record {
          keys = keys-yes row w.1.0;
          items = first-each s row items;
          few = leb-true _ _ w.0;
          light = leb-true _ _ w.1.1.1.0;
        };
        fits = second-each s row items;
      }

  yes-row : (s : ℕ) (row : Row) → (FineRow is_value p) s row → row_fine is_value p s row ≡ true
  unfolding row_fine fits
  yes-row s row w =
      let items = yes-each (item_fine is_value p s) (Fine s) (yes-item s) row (both-each s row w.sound.items w.fits) in
      yes-every _ (
        le-leb _ _ w.sound.few,
        (yes-keys row w.sound.keys, (yes-every _ items, (le-leb _ _ w.sound.light, tt))),
      )

  -- the test of the first n rows finds exactly the fine ones
  pub rows-yes : (n : ℕ) (rows : ℕ → Row) → rows_fine is_value p n rows ≡ true → (i : ℕ) → i < n → (FineRow is_value p) i (rows i)
  unfolding rows_fine
  rows-yes zero rows e i l = absurd (omega arith)
  rows-yes (suc n) rows e i l =
      let w = every-yes _ e in
      by_test (eqb i n)
      (λ q. subst (λ (z : ℕ). (FineRow is_value p) z (rows z)) (sym (eqb-true i n q)) (row-yes n (rows n) w.0))
      (λ q. rows-yes n rows w.1.0 i (let ne = eqb-false i n q in omega arith))

  pub yes-rows : (n : ℕ) (rows : ℕ → Row) → ((i : ℕ) → (FineRow is_value p) i (rows i)) → rows_fine is_value p n rows ≡ true
  unfolding rows_fine
  yes-rows zero rows w = refl
  yes-rows (suc n) rows w = yes-every _ (yes-row n (rows n) (w n), (yes-rows n rows w, tt))
