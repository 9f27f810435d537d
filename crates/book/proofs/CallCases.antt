-- Worked cases of calls on the book, each a theorem by itself, by computing. They lean on the definitions of Book.antt and Calls.antt alone.
-- All run on a fresh book of one shard of two keys and 400 bytes, with counts of zero, unless they say otherwise.
use Rattle.std.specs.Prelude.{◌≡◌, refl, ℕ, true, false, List, [], ◌∷◌}
use Rattle.std.proofs.Math.Option.{Option, none, some}
use Rattle.buffer.specs.Same.{Bytes}
use Rattle.book.specs.Book.{Row, Counts, fresh, plus, new_item, Answer, hit, miss, stored, no_space, number, store, book-defs}
use Rattle.book.specs.Calls.{Wanted, Storing, Call, planning, resolving, resolving7, push, push_all, single, take_epoch, refused, refusals}
use Rattle.book.specs.Calls.{after_calls, replies, lookups, stores, invalidations, ons, call-defs}
use Rattle.book.proofs.Cases.{holding, none_yet, a, b, d, get, len, u, w}

unfoldable pub said : List Call → List (Option (List Answer))
said cs = replies (holding 400) cs (fresh none_yet)

unfoldable pub row : List Call → Row
row cs = (after_calls (holding 400) cs (fresh none_yet)).rows 0

unfoldable pub counts : List Call → Counts
counts cs = (after_calls (holding 400) cs (fresh none_yet)).counts

-- one name that opens the definitions of all three pages
unfoldable pub case-defs : Unit {0}
unfolding said row counts book-defs call-defs refusals after_calls replies lookups stores invalidations ons
case-defs = tt

abbrev pub wanted : Bytes → Bytes → Wanted
wanted k c = record { key = k; command = c }

abbrev pub storing : Bytes → Bytes → Bytes → ℕ → Storing
storing k c v x = record { wanted = wanted k c; value = v; expiry = x }

-- a planning looks its keys up in turn, and does not stop at a miss
pub planning-in-turn : said (single (store a get u 10 7) ∷ planning 5 7 (wanted b get ∷ wanted a get ∷ []) (λ xs. false) ∷ [])
    ≡ some (stored ∷ []) ∷ some (miss ∷ hit u ∷ []) ∷ []
unfolding case-defs
planning-in-turn = refl

-- an expired item looked up twice in one planning: dropped and counted once, and two misses
pub expired-twice : counts (single (store a get u 10 7) ∷ planning 11 7 (wanted a get ∷ wanted a get ∷ []) (λ xs. false) ∷ []) ≡ plus 0 2 1
unfolding case-defs
expired-twice = refl

-- a planning that 5 refuses changes nothing, the counts too
pub five-changes-nothing : counts (single (store a get u 10 7) ∷ planning 11 7 (wanted a get ∷ []) (λ xs. true) ∷ []) ≡ plus 0 0 0
unfolding case-defs
five-changes-nothing = refl

-- a resolving's stores are under its own epoch
pub resolving-stores : row (resolving 7 (storing a get u 10 ∷ storing b get w 20 ∷ []) ∷ []) ≡ new_item b get w 20 7 ∷ new_item a get u 10 7 ∷ []
unfolding case-defs
resolving-stores = refl

-- where 7 refuses it, the stores that 7 leaves remain, and nothing is reported
pub seven-leaves-stores : row (resolving7 7 (storing a get u 10 ∷ []) ∷ []) ≡ new_item a get u 10 7 ∷ []
unfolding case-defs
seven-leaves-stores = refl

pub seven-reports-nothing : said (resolving7 7 (storing a get u 10 ∷ []) ∷ []) ≡ none ∷ []
unfolding case-defs
seven-reports-nothing = refl

-- a store that lacks space does not stop the later ones: 80 bytes have room for an item of one such entry, not of two
pub lacking-one : replies (holding 80) (resolving 7 (storing a get u 10 ∷ storing a len w 20 ∷ storing a get w 30 ∷ []) ∷ []) (fresh none_yet)
    ≡ some (stored ∷ no_space ∷ stored ∷ []) ∷ []
unfolding case-defs
lacking-one = refl

-- and one is reported
pub one-reported : refusals (stored ∷ no_space ∷ stored ∷ []) ≡ 1
unfolding case-defs
one-reported = refl

-- a push invalidates its keys one by one
pub push-keys : counts (resolving 7 (storing a get u 10 ∷ storing b get w 20 ∷ []) ∷ push (b ∷ d ∷ a ∷ b ∷ []) ∷ []) ≡ plus 0 0 2
unfolding case-defs
push-keys = refl

-- one of no keys nothing, one of `_` everything
pub push-none : row (single (store a get u 10 7) ∷ push [] ∷ []) ≡ new_item a get u 10 7 ∷ []
unfolding case-defs
push-none = refl

pub push-all : row (single (store a get u 10 7) ∷ push_all ∷ []) ≡ []
unfolding case-defs
push-all = refl

-- a refused call does nothing and is not answered; new epochs count on
pub refused-between : said (take_epoch ∷ refused ∷ take_epoch ∷ []) ≡ some (number 1 ∷ []) ∷ none ∷ some (number 2 ∷ []) ∷ []
unfolding case-defs
refused-between = refl
