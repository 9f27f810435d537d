-- What may be stored, as any test of key, command key and value (lengths within the limits, one RESP3 value): if each store of a sequence of calls passes
-- it, with epoch and expiry of 64 bits, then so does every entry of the book that the sequence leaves. Assumes nothing of the test.
use Rattle.std.specs.Prelude.{◌≡◌, ℕ, ◌^◌, ◌<◌, Bool, true}
use Rattle.std.proofs.Common.{sym, ap, ◌∙◌}
use Rattle.std.proofs.Math.Path.{subst}
use mathlib.Core.List.{List, [], ◌∷◌}
use Rattle.buffer.specs.Cases.{by_test}
use Rattle.buffer.specs.Same.{Bytes, same}
use Rattle.buffer.specs.SameLaws.{same-eq}
use Rattle.book.specs.Book.{Entry, Item, Row, Setup, Book, Counts, Keyed, lookup, store, invalidate, Event, on, invalidate_all, new_epoch, fresh}
use Rattle.book.specs.Book.{set_value, answers}
use Rattle.book.specs.Calls.{Call, planning, resolving, resolving7, push, push_all, single, take_epoch, refused, events_of, is_refused, remaining}
use Rattle.book.specs.Calls.{happening, after_calls, run, onto, traced}
use Rattle.book.specs.Each.{Each, Brings}

module _ (may : Bytes → Bytes → Bytes → Bool) where
  -- ---- the statement's words

  -- each entry may be stored under the key
  abbrev pub StorableEntries : Bytes → List Entry → Type 0
  StorableEntries k [] = Unit {0}
  StorableEntries k (en ∷ ens) = (may k en.command en.value ≡ true) × StorableEntries k ens

  -- so may the item
  pub record StorableItem (it : Item) : Type 0 where
    pub entries : StorableEntries it.key it.entries
    pub epoch : it.epoch < 2 ^ 64
    pub expiry : it.expiry < 2 ^ 64
