-- A property of every item of a row, and of what a store brings. Assumes nothing: these are definitions.
use Rattle.std.specs.Prelude.{◌≡◌, true, [], ◌∷◌}
use Rattle.buffer.specs.Same.{same}
use Rattle.book.specs.Book.{Item, Row, Keyed, lookup, store, invalidate, new_item, updated}

-- every item of the row has the property
abbrev pub Each : (Item → Type 0) → Row → Type 0
Each P [] = Unit {0}
Each P (it ∷ row) = P it × Each P row

-- the store's new item has it, and an item of its key that it updates keeps it
abbrev pub Brings : (Item → Type 0) → Keyed → Type 0
Brings P (lookup k c t e) = Unit {0}
Brings P (store k c v x e) = P (new_item k c v x e) × ((it : Item) → same k it.key ≡ true → P it → P (updated c v x it))
Brings P (invalidate k) = Unit {0}
