-- What the changes of a row do to each key's item, and of entries to each command key's value. Assumes nothing.
-- A case of each page of cases is brought in so that they are checked before any proof.
-- On a row with no key twice `place` and `oldest-goes` say which item goes or is replaced, and that all others stay in their order.
use Rattle.std.specs.Prelude.{◌≡◌, refl, Bool, true, false, cond, List, [], ◌∷◌, ◌++◌}
use Rattle.std.proofs.Common.{sym, ap, ◌∙◌, true≢false}
use Rattle.std.proofs.lemmas.Bool.{false≢true}
use Rattle.std.proofs.Math.Option.{none, some, none-ne-some, some-injective}
use Rattle.buffer.specs.Cases.{by_test}
use Rattle.buffer.specs.Same.{Bytes, same}
use Rattle.buffer.specs.SameLaws.{same_refl, same-eq}
use Rattle.book.specs.Book.{Entry, Item, Row, find, without, replace, without_oldest, value_for, set_value}
use Rattle.book.specs.Sound.{Distinct}

-- one name that opens the changes of a row
unfoldable pub row-defs : Unit {0}
unfolding find without replace without_oldest
row-defs = tt

-- ---- keys
