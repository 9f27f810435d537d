-- A lookup's answer is read off its key's item. So a planning's answers are read off the book before it (`planned`): its lookups share clock and epoch,
-- and what one of them drops no other would be served. Assumes nothing.
use Rattle.std.specs.Prelude.{◌≡◌, ℕ, ◌≤◌, Bool, true, cond, List, [], ◌∷◌, ◌↔◌, eqb}
use Rattle.std.proofs.Math.Path.{refl}
use Rattle.std.proofs.Common.{sym, ap, ap₂, ◌∙◌, arith, eqb-true, leb-true, le-leb}
use Rattle.std.proofs.lemmas.Bool.{false≢true}
use Rattle.std.proofs.Math.Option.{Option, none, some, none-ne-some, some-injective}
use Rattle.buffer.specs.Cases.{by_test, eqb_same}
use Rattle.buffer.specs.Same.{Bytes, same}
use Rattle.book.specs.Book.{Item, Row, Setup, Book, Answer, hit, miss, lookup, on, find, without, value_for, current, serve, lookup_item, key_of}
use Rattle.book.specs.Book.{effect_on, effect, put, after, answer_to, answers}
use Rattle.book.specs.Calls.{Wanted, planning, lookups, ons, reply_to, call-defs}
use Rattle.book.specs.Residence.{item_of}
use Rattle.book.specs.Items.{if_current}

-- ---- the answer

-- a value is a hit, none a miss
unfoldable pub served : Option Bytes → Answer
served none = miss
served (some v) = hit v

-- the answer to a lookup whose key has this item, or none
unfoldable pub answer_from : Option Item → Bytes → ℕ → ℕ → Answer
answer_from none c t e = miss
answer_from (some it) c t e = cond (current t e it) (served (value_for c it.entries)) miss

-- each lookup's answer on the book before the planning
unfoldable pub dry : Setup → Book → ℕ → ℕ → List Wanted → List Answer
dry p bk t e [] = []
dry p bk t e (w ∷ ws) = answer_to p (on (lookup w.key w.command t e)) bk ∷ dry p bk t e ws
