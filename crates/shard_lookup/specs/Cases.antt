-- Places of entries at work on a small item. Assumes nothing.
use Rattle.std.specs.Prelude.{◌≡◌, refl, [], ◌∷◌, Some, None}
use Rattle.buffer.specs.Same.{same}
use Rattle.book.specs.Book.{Item}
use Rattle.shard_lookup.specs.Entries.{entry_from, entry_of}

-- an item of key 1, with the value 8 9 under command key 2 and the value 7 under command key 3 4: 33 + 19 + 19 bytes
abbrev first : Item
first =
    record {
      key = 1 ∷ [];
      epoch = 5;
      expiry = 6;
      entries = record { command = 2 ∷ []; value = 8 ∷ (9 ∷ []) } ∷ (record { command = 3 ∷ (4 ∷ []); value = 7 ∷ [] } ∷ []);
    }

-- entries begin behind their item's key
pub entry_first : entry_of 16 (2 ∷ []) first ≡ Some 49
unfolding entry_from same
entry_first = refl

pub entry-second : entry_of 16 (3 ∷ (4 ∷ [])) first ≡ Some 68
unfolding entry_from same
entry-second = refl

pub entry-none : entry_of 16 [] first ≡ None
unfolding entry_from same
entry-none = refl
