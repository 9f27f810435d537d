-- What each event makes of each key's item, as an equation. Assumes that no row has a key twice, as in every reachable book.
use Rattle.std.specs.Prelude.{◌≡◌, ℕ, Bool, true, false, cond, ◌∷◌, length, eqb, leb}
use Rattle.std.proofs.Math.Path.{refl}
use Rattle.std.proofs.Math.Option.{Option, none, some}
use Rattle.std.proofs.Common.{eqb-true}
use Rattle.buffer.specs.Cases.{by_test}
use Rattle.buffer.specs.Same.{Bytes, same}
use Rattle.buffer.specs.SameLaws.{same_refl, same-eq}
use Rattle.book.specs.Book.{Item, Row, Setup, Book, Keyed, lookup, store, invalidate, Event, on, invalidate_all, new_epoch, find, without}
use Rattle.book.specs.Book.{value_for, current, serve, lookup_item, new_item, updated, room_for_one, stored_row, fits, if_fits, key_of, effect_on, put}
use Rattle.book.specs.Book.{effect, after}
use Rattle.book.specs.Sound.{Distinct}
use Rattle.book.specs.Trace.{SoundBook}
use Rattle.book.specs.Residence.{item_of, is_stored}

-- ---- the equation

-- a lookup of the key keeps a current item
unfoldable pub if_current : ℕ → ℕ → Option Item → Option Item
if_current t e none = none
if_current t e (some it) = cond (current t e it) (some it) none
