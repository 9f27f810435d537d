-- What the tests of Decode.antt say: each holds exactly where what it asks holds, told in the book's own terms (its Sound.antt). Assumes nothing.
use Rattle.std.specs.Prelude.{◌≡◌, Bool, true, false, List, [], ◌∷◌, map, length, eqb}
use Rattle.std.proofs.Math.Path.{refl, subst}
use Rattle.std.proofs.Common.{sym, ap, arith}
use Prim.Native.Nat.{ℕ, zero, suc, ◌^◌, ◌≤◌, ◌<◌}
use Rattle.std.proofs.lemmas.Bool.{false≢true}
use Rattle.std.proofs.Math.Option.{Option, none, some}
use borrow.Author.Tests.{leb-true, le-leb, ltb-true, lt-ltb, eqb-true, eqb-false, eq-eqb}
use Rattle.buffer.specs.Cases.{by_test}
use Rattle.buffer.specs.Same.{Bytes}
use Rattle.book.specs.Book.{Setup, Entry, Item, Row, find, value_for, fits}
use Rattle.book.specs.Sound.{Distinct, DistinctCommands, SoundItem, Sound}
use Rattle.book.specs.Each.{Each}
use Rattle.book.specs.Storable.{StorableEntries, StorableItem}
use Rattle.arena.specs.Decode.{every, absent, distinct_keys, distinct_commands, may_store, item_fits, item_fine, row_fine, rows_fine}

-- ---- tests and what they say

module _ (is_value : Bytes → Bool) (p : Setup) where
  -- a call may store what this item holds
  abbrev pub Fits : Item → Type 0
  Fits it = StorableItem (may_store is_value) it

  -- the row of shard s
  pub record FineRow (s : ℕ) (row : Row) : Type 0 where
    pub sound : Sound p s row
    pub fits : Each Fits row

  -- the rows of all shards
  pub record WellFormed (rows : ℕ → Row) : Type 0 where
    pub fine : (s : ℕ) → FineRow s (rows s)
    pub beyond : (s : ℕ) → p.shards ≤ s → rows s ≡ []
    -- ---- the tests of items and rows
