-- What a lookup reads in an item, and what its answer tells. Assumes nothing.
use Rattle.std.specs.Prelude.{◌≡◌, ℕ, ◌+◌, ◌-◌, ◌≤◌, true, false, length}
use Rattle.std.proofs.Math.Option.{none, some}
use Rattle.buffer.specs.Same.{Bytes}
use Rattle.buffer.specs.Part.{part}
use Rattle.book.specs.Book.{Item, Row, Counts, Effect, hit, miss, plus, find, current, value_for, lookup_item}
use Rattle.arena.specs.Layout.{enc_item}
use Rattle.arena.specs.Edit.{item_bytes}
use Rattle.arena.specs.Place.{entries_place}
use Rattle.shard_lookup.specs.declared.Reading.{Reading}
use Rattle.shard_lookup.specs.declared.Reading.TheVariants.{Stale, Bare, Value}
use Rattle.shard_lookup.specs.declared.Looked.{Looked}
use Rattle.shard_lookup.specs.declared.Looked.TheVariants.{Hit, Miss}

-- what the item has for a lookup of command key c at clock t under epoch e: it is not current; or it is, with no value for c; or with the value
-- that its bytes from `skip` on are, `len` of them, behind its head, its key, the entries before and the entry's own head and command key
abbrev pub Reads : ℕ → ℕ → Bytes → Item → Reading → Type 0
Reads t e c it Stale = current t e it ≡ false
Reads t e c it Bare = (current t e it ≡ true) × (value_for c it.entries ≡ none)
Reads t e c it (Value skip len) =
    (current t e it ≡ true) × (skip + len ≤ item_bytes it) × (value_for c it.entries ≡ some (part (enc_item it) skip len))
    × (skip ≡ 32 + length it.key + entries_place c it.entries)

-- the effect of a lookup on the row: the book's, from the key's item
abbrev pub lookup_on : Bytes → Bytes → ℕ → ℕ → Row → Effect
lookup_on k c t e row = lookup_item (find k row) k c t e row

-- what a lookup that is answered so adds to the counts: a hit; or a miss and the entries dropped
abbrev pub adds_by : Looked → Counts
adds_by (Hit from to) = plus 1 0 0
adds_by (Miss n) = plus 0 1 n

-- the answer tells the lookup's effect: a hit, with the value that stands in the bytes s from `from` up to `to`; or a miss that drops n entries
abbrev pub Told : Bytes → Effect → Looked → Type 0
Told s f (Hit from to) = (from ≤ to) × (to ≤ length s) × (f.answer ≡ hit (part s from (to - from))) × (f.adds ≡ adds_by (Hit from to))
Told s f (Miss n) = (f.answer ≡ miss) × (f.adds ≡ adds_by (Miss n))

-- so it tells what the effect adds
pub told-adds : (s : Bytes) (f : Effect) (r : Looked) → Told s f r → f.adds ≡ adds_by r
told-adds s f (Hit from to) h = h.3
told-adds s f (Miss n) h = h.1

-- a hit's value begins at this place, and not only where equal bytes stand
abbrev pub BeginsAt : ℕ → Looked → Type 0
BeginsAt at (Hit from to) = from ≡ at
BeginsAt at (Miss n) = Unit {0}
