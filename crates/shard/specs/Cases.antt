-- Positions at work on small rows. Assumes nothing.
use Rattle.std.specs.Prelude.{◌≡◌, refl, [], ◌∷◌, Some, None}
use Rattle.buffer.specs.Same.{same}
use Rattle.book.specs.Book.{Item, entry_bytes}
use Rattle.shard.specs.Position.{position_from, position_of}

-- an item of key 1, with the value 8 9 under command key 2 and the value 7 under command key 3 4: 33 + 19 + 19 bytes
abbrev first : Item
first =
    record {
      key = 1 ∷ [];
      epoch = 5;
      expiry = 6;
      entries = record { command = 2 ∷ []; value = 8 ∷ (9 ∷ []) } ∷ (record { command = 3 ∷ (4 ∷ []); value = 7 ∷ [] } ∷ []);
    }

-- one of the empty key, with an empty value under the empty command key
abbrev second : Item
second = record { key = []; epoch = 5; expiry = 6; entries = record { command = []; value = [] } ∷ [] }

-- the first item begins behind the header, the next behind the first
pub first-at : position_of (1 ∷ []) (first ∷ (second ∷ [])) ≡ Some 16
unfolding position_from same entry_bytes
first-at = refl

pub second_at : position_of [] (first ∷ (second ∷ [])) ≡ Some 87
unfolding position_from same entry_bytes
second_at = refl

pub none-at : position_of (1 ∷ (0 ∷ [])) (first ∷ (second ∷ [])) ≡ None
unfolding position_from same entry_bytes
none-at = refl
