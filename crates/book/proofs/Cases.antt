-- Worked cases of the book, each a theorem by itself, by computing. They lean on Book.antt alone, so that a wrong definition there fails here first.
-- All run on a fresh book of one shard of two keys and 400 bytes, with counts of zero, unless they say otherwise.
use Rattle.std.specs.Prelude.{◌≡◌, refl, ℕ, ◌-◌, ◌^◌, List, [], ◌∷◌}
use Rattle.buffer.specs.Same.{Bytes}
use Rattle.book.specs.Book.{Setup, Entry, Item, Row, Counts, fresh, plus, new_item, row_bytes, Answer, hit, miss, stored, no_space, number}
use Rattle.book.specs.Book.{lookup, store, invalidate, Event, on, invalidate_all, new_epoch, after_all, answers, book-defs}

-- ---- the setup of the cases, and short names

abbrev pub holding : ℕ → Setup
holding n = record { shards = 1; keys = 2; shard_of = λ k. 0; bytes = n }

abbrev pub none_yet : Counts
none_yet = plus 0 0 0

unfoldable pub said : List Event → List Answer
said evs = answers (holding 400) evs (fresh none_yet)

unfoldable pub row : List Event → Row
row evs = (after_all (holding 400) evs (fresh none_yet)).rows 0

unfoldable pub counts : List Event → Counts
counts evs = (after_all (holding 400) evs (fresh none_yet)).counts

unfoldable pub next : List Event → ℕ
next evs = (after_all (holding 400) evs (fresh none_yet)).next

-- keys a, b, d; command keys get and len; values u and w
abbrev pub a : Bytes
a = 97 ∷ []

abbrev pub b : Bytes
b = 98 ∷ []

abbrev pub d : Bytes
d = 100 ∷ []

abbrev pub get : Bytes
get = 71 ∷ 97 ∷ []

abbrev pub len : Bytes
len = 76 ∷ 97 ∷ []

abbrev pub u : Bytes
u = 43 ∷ 117 ∷ 13 ∷ 10 ∷ []

abbrev pub w : Bytes
w = 43 ∷ 119 ∷ 13 ∷ 10 ∷ []

abbrev pub entry : Bytes → Bytes → Entry
entry c v = record { command = c; value = v }

abbrev pub item : Bytes → ℕ → ℕ → List Entry → Item
item k e x ens = record { key = k; epoch = e; expiry = x; entries = ens }

-- one name that opens the definitions of both pages
unfoldable pub case-defs : Unit {0}
unfolding said row counts next book-defs
case-defs = tt

-- ---- expiry and epoch

-- P: clock = expiry is served
pub served-at-expiry : said (on (store a get u 10 7) ∷ on (lookup a get 10 7) ∷ []) ≡ stored ∷ hit u ∷ []
unfolding case-defs
served-at-expiry = refl

-- P: one more is dropped, with its entry counted: a miss, and the item is gone
pub dropped-past-expiry : said (on (store a get u 10 7) ∷ on (lookup a get 11 7) ∷ on (lookup a get 10 7) ∷ []) ≡ stored ∷ miss ∷ miss ∷ []
unfolding case-defs
dropped-past-expiry = refl

pub dropped-is-gone : row (on (store a get u 10 7) ∷ on (lookup a get 11 7) ∷ []) ≡ []
unfolding case-defs
dropped-is-gone = refl

pub dropped-is-counted : counts (on (store a get u 10 7) ∷ on (store a len w 10 7) ∷ on (lookup a get 11 7) ∷ []) ≡ plus 0 1 2
unfolding case-defs
dropped-is-counted = refl

-- a lookup under another epoch drops the item too
pub dropped-by-epoch : row (on (store a get u 10 7) ∷ on (lookup a get 10 8) ∷ []) ≡ []
unfolding case-defs
dropped-by-epoch = refl

-- an updating store sets the expiry for all entries of its item, to an earlier time too
pub one-expiry : said (on (store a get u 10 7) ∷ on (store a len w 5 7) ∷ on (lookup a get 6 7) ∷ []) ≡ stored ∷ stored ∷ miss ∷ []
unfolding case-defs
one-expiry = refl

-- so a store under the same epoch revives an expired item, entries of other commands and all
pub revived : said (on (store a get u 5 7) ∷ on (store a len w 20 7) ∷ on (lookup a get 15 7) ∷ []) ≡ stored ∷ stored ∷ hit u ∷ []
unfolding case-defs
revived = refl

-- ---- what is served

-- each command key has its own value, and the latest store under it is what is served
pub latest-served : said (on (store a get u 10 7) ∷ on (store a len u 10 7) ∷ on (store a get w 10 7) ∷ on (lookup a get 1 7) ∷ on (lookup a len 1 7) ∷ [])
    ≡ stored ∷ stored ∷ stored ∷ hit w ∷ hit u ∷ []
unfolding case-defs
latest-served = refl

-- an update stays in its entry's place, and a new entry comes last
pub entry-order : row (on (store a get u 10 7) ∷ on (store a len u 10 7) ∷ on (store a get w 10 7) ∷ [])
    ≡ item a 7 10 (entry get w ∷ entry len u ∷ []) ∷ []
unfolding case-defs
entry-order = refl

-- ---- recency

-- a lookup that is served makes the item newest
pub served-is-newest : row (on (store a get u 10 7) ∷ on (store b get u 10 7) ∷ on (lookup a get 1 7) ∷ [])
    ≡ new_item a get u 10 7 ∷ new_item b get u 10 7 ∷ []
unfolding case-defs
served-is-newest = refl

-- and so does one that misses only for the command; it adds a miss and nothing else
pub command-missed : row (on (store a get u 10 7) ∷ on (store b get u 10 7) ∷ on (lookup a len 1 7) ∷ [])
    ≡ new_item a get u 10 7 ∷ new_item b get u 10 7 ∷ []
unfolding case-defs
command-missed = refl

pub command-miss-counted : counts (on (store a get u 10 7) ∷ on (lookup a len 1 7) ∷ []) ≡ plus 0 1 0
unfolding case-defs
command-miss-counted = refl

-- an updating store does not move its item
pub update-unmoved : row (on (store a get u 10 7) ∷ on (store b get u 10 7) ∷ on (store a get w 20 7) ∷ [])
    ≡ new_item b get u 10 7 ∷ new_item a get w 20 7 ∷ []
unfolding case-defs
update-unmoved = refl

-- a store under another epoch drops nothing else at a full shard, and its new item is newest
pub other-epoch : row (on (store a get u 10 7) ∷ on (store b get u 10 7) ∷ on (store a len w 20 8) ∷ [])
    ≡ new_item a len w 20 8 ∷ new_item b get u 10 7 ∷ []
unfolding case-defs
other-epoch = refl

-- a store of a third key at a full shard drops the oldest
pub oldest-evicted : row (on (store a get u 10 7) ∷ on (store b get u 10 7) ∷ on (store d get u 10 7) ∷ [])
    ≡ new_item d get u 10 7 ∷ new_item b get u 10 7 ∷ []
unfolding case-defs
oldest-evicted = refl

-- ---- counts

-- what a store drops is not counted: not the item evicted, with two entries, and not the one replaced
pub evicted-uncounted : counts (on (store a get u 10 7) ∷ on (store a len u 10 7) ∷ on (store b get u 10 7) ∷ on (store d get u 10 7) ∷ [])
    ≡ plus 0 0 0
unfolding case-defs
evicted-uncounted = refl

pub replaced-uncounted : counts (on (store a get u 10 7) ∷ on (store a len u 10 7) ∷ on (store a get w 10 8) ∷ []) ≡ plus 0 0 0
unfolding case-defs
replaced-uncounted = refl

-- an invalidation counts the entries of its item, or of all, and nothing where there is none
pub invalidation-counted : counts (on (store a get u 10 7) ∷ on (store a len u 10 7) ∷ on (invalidate a) ∷ on (invalidate a) ∷ []) ≡ plus 0 0 2
unfolding case-defs
invalidation-counted = refl

pub all-counted : counts (on (store a get u 10 7) ∷ on (store a len u 10 7) ∷ on (store b get u 10 7) ∷ invalidate_all ∷ []) ≡ plus 0 0 3
unfolding case-defs
all-counted = refl

pub all-gone : row (on (store a get u 10 7) ∷ on (store b get u 10 7) ∷ invalidate_all ∷ []) ≡ []
unfolding case-defs
all-gone = refl

-- each count wraps at 64 bits
pub counts-wrap : (after_all (holding 400)
    (on (store a get u 10 7) ∷ on (lookup a get 1 7) ∷ on (lookup b get 1 7) ∷ on (invalidate a) ∷ [])
    (fresh (plus (2 ^ 64 - 1) (2 ^ 64 - 1) (2 ^ 64 - 1)))).counts
    ≡ plus 0 0 0
unfolding case-defs
counts-wrap = refl

-- ---- epochs

-- a fresh cache's first new epoch is 1, its second 2
pub first-epochs : said (new_epoch ∷ new_epoch ∷ []) ≡ number 1 ∷ number 2 ∷ []
unfolding case-defs
first-epochs = refl

-- the number after 2^64 - 1 is 0
pub epoch-wraps : (after_all (holding 400) (new_epoch ∷ []) (record { rows = λ i. []; counts = none_yet; next = 2 ^ 64 - 1 })).next ≡ 0
unfolding case-defs
epoch-wraps = refl

-- ---- space

abbrev pub key3 : Bytes
key3 = 1 ∷ 2 ∷ 3 ∷ []

abbrev pub command6 : Bytes
command6 = 1 ∷ 2 ∷ 3 ∷ 4 ∷ 5 ∷ 6 ∷ []

abbrev pub value7 : Bytes
value7 = 1 ∷ 2 ∷ 3 ∷ 4 ∷ 5 ∷ 6 ∷ 7 ∷ []

-- P: key 3, command 6, value 7 bytes take 64
pub sixty-four : row_bytes (new_item key3 command6 value7 0 0 ∷ []) ≡ 64
unfolding book-defs
sixty-four = refl

-- so an empty shard of 80 bytes, 16 of them its header, keeps that store
pub just-fits : answers (holding 80) (on (store key3 command6 value7 10 7) ∷ []) (fresh none_yet) ≡ stored ∷ []
unfolding book-defs
just-fits = refl

-- and one of 79 refuses it as 11
pub lacks-one : answers (holding 79) (on (store key3 command6 value7 10 7) ∷ []) (fresh none_yet) ≡ no_space ∷ []
unfolding book-defs
lacks-one = refl

-- what a store replaces or drops is gone when its space is judged: 80 bytes hold one such item after another
pub space-freed : answers (holding 80) (on (store key3 command6 value7 10 7) ∷ on (store key3 command6 value7 10 8) ∷ []) (fresh none_yet)
    ≡ stored ∷ stored ∷ []
unfolding book-defs
space-freed = refl

-- a store that lacks space changes nothing: not the item that it would update, replace or drop
pub nothing-changed : (after_all (holding 80) (on (store key3 command6 value7 10 7) ∷ on (store key3 get u 99 7) ∷ on (store a get u 99 7) ∷ [])
    (fresh none_yet)).rows 0
    ≡ new_item key3 command6 value7 10 7 ∷ []
unfolding book-defs
nothing-changed = refl
