-- What holds of every row of a book that events left, from a fresh one: no key twice, each in its shard, no more than the shard holds, bytes within
-- the space, at least one entry an item, no command key twice. That it holds is SoundLaws.antt's. Assumes nothing: these are definitions.
use Rattle.std.specs.Prelude.{◌≡◌, ℕ, ◌-◌, ◌≤◌, List, [], ◌∷◌, length}
use Rattle.std.proofs.Math.Option.{none}
use Rattle.book.specs.Book.{Entry, Item, Row, Setup, value_for, find, row_bytes}
use Rattle.book.specs.Each.{Each}

-- no key twice
abbrev pub Distinct : Row → Type 0
Distinct [] = Unit {0}
Distinct (it ∷ row) = (find it.key row ≡ none) × Distinct row

-- no command key twice
abbrev pub DistinctCommands : List Entry → Type 0
DistinctCommands [] = Unit {0}
DistinctCommands (en ∷ ens) = (value_for en.command ens ≡ none) × DistinctCommands ens

-- what holds of an item in shard s
pub record SoundItem (p : Setup) (s : ℕ) (it : Item) : Type 0 where
  pub home : p.shard_of it.key ≡ s
  pub some-entry : 1 ≤ length it.entries
  pub commands : DistinctCommands it.entries

-- what holds of the row of shard s
pub record Sound (p : Setup) (s : ℕ) (row : Row) : Type 0 where
  pub keys : Distinct row
  pub items : Each (SoundItem p s) row
  pub few : length row ≤ p.keys
  pub light : row_bytes row ≤ p.bytes - 16
