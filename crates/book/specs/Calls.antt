-- Calls and sequences of calls on the book, by rules B14, G5 and D1 of docs/BEHAVIOUR.md. Assumes nothing: these are definitions.
-- The book knows of a call what its arguments give: its events, and whether a cause refuses it. How these are read from bytes, a plan's by docs/LAYOUT.md
-- and a push's by RESP3, is the entry points' matter.
use Rattle.std.specs.Prelude.{ℕ, ◌+◌, Bool, true, false, cond, ◌≡◌, List, [], ◌∷◌, ◌≢◌}
use Rattle.std.proofs.Math.Option.{Option, none, some}
use Rattle.buffer.specs.Same.{Bytes}
use Rattle.book.specs.Book.{Setup, Book, Answer, hit, miss, stored, no_space, invalidated, number, Keyed, lookup, store, invalidate, key_of}
use Rattle.book.specs.Book.{Event, on, invalidate_all, new_epoch, after, after_all, answers}

-- what a planning looks up
pub record Wanted : Type 0 where
  pub key : Bytes
  pub command : Bytes

-- what a plan keeps of a wanted key that was not found: its client expiry with it (rule P19)
pub record Missing : Type 0 where
  pub wanted : Wanted
  pub expiry : ℕ

-- a wanted key under its command's client expiry
abbrev pub missing_until : ℕ → Wanted → Missing
missing_until x w = record { wanted = w; expiry = x }

-- what a resolving stores: the wanted key is the plan's, the value the reply's, the expiry is worked out from clock, PTTL and client expiry
pub record Storing : Type 0 where
  pub wanted : Wanted
  pub value : Bytes
  pub expiry : ℕ

-- the calls of demand 3's sequences
pub data Call : Type 0 where
  -- clock, epoch, lookups, and whether the answers that they would have make plan or send buffer short (cause 5)
  planning : ℕ → ℕ → List Wanted → (List Answer → Bool) → Call
  -- epoch and stores
  resolving : ℕ → List Storing → Call
  -- one that cause 7 refuses: epoch, and the stores that 7 leaves
  resolving7 : ℕ → List Storing → Call
  -- a push of keys (of none, where rule U1 passes it over), and one of a null
  push : List Bytes → Call
  push_all : Call
  -- one lookup, store or invalidation by itself, as the Rust's `ShardedLRU` has them
  single : Keyed → Call
  -- a new epoch
  take_epoch : Call
  -- any call that another cause refuses; of all causes but 5, 7 and 11 the arguments alone decide
  refused : Call

-- ---- Rule B14: the lookups of a planning, the stores of a resolving, the invalidations of a push, each in its order

-- a planning's lookups, under one clock and epoch
unfoldable pub lookups : ℕ → ℕ → List Wanted → List Keyed
lookups t e [] = []
lookups t e (w ∷ ws) = lookup w.key w.command t e ∷ lookups t e ws

-- a resolving's stores, under one epoch
unfoldable pub stores : ℕ → List Storing → List Keyed
stores e [] = []
stores e (s ∷ ss) = store s.wanted.key s.wanted.command s.value s.expiry e ∷ stores e ss

-- a push's invalidations
unfoldable pub invalidations : List Bytes → List Keyed
invalidations [] = []
invalidations (k ∷ ks) = invalidate k ∷ invalidations ks

-- events with keys
unfoldable pub ons : List Keyed → List Event
ons [] = []
ons (q ∷ qs) = on q ∷ ons qs

-- the events that a call is made of, in their order
unfoldable pub events_of : Call → List Event
events_of (planning t e ws short) = ons (lookups t e ws)
events_of (resolving e ws) = ons (stores e ws)
events_of (resolving7 e ws) = ons (stores e ws)
events_of (push ks) = ons (invalidations ks)
events_of push_all = invalidate_all ∷ []
events_of (single q) = ons (q ∷ [])
events_of take_epoch = new_epoch ∷ []
events_of refused = []

-- ---- Rule G5: a refused call changes nothing, save that cause 7 keeps the stores made before it (rule S12)

-- whether a cause refuses the call, from the answers that its events would have. (A single store that 11 refuses answers `no_space`.)
unfoldable pub is_refused : Call → List Answer → Bool
is_refused (planning t e ws short) said = short said
is_refused (resolving e ws) said = false
is_refused (resolving7 e ws) said = true
is_refused (push ks) said = false
is_refused push_all said = false
is_refused (single q) said = false
is_refused take_epoch said = false
is_refused refused said = true

-- what a refused call still does: under cause 7, the stores made before it
unfoldable pub remaining : Call → List Event
remaining (planning t e ws short) = []
remaining (resolving e ws) = []
remaining (resolving7 e ws) = ons (stores e ws)
remaining (push ks) = []
remaining push_all = []
remaining (single q) = []
remaining take_epoch = []
remaining refused = []

-- the events that happen
unfoldable pub happening : Setup → Call → Book → List Event
happening p c bk = cond (is_refused c (answers p (events_of c) bk)) (remaining c) (events_of c)

-- the book after a call
unfoldable pub after_call : Setup → Call → Book → Book
after_call p c bk = after_all p (happening p c bk) bk

-- what each of its events answers; nothing where it is refused
unfoldable pub reply_to : Setup → Call → Book → Option (List Answer)
reply_to p c bk = cond (is_refused c (answers p (events_of c) bk)) none (some (answers p (events_of c) bk))

-- how many of the stores found no space, which a resolving reports (rule S11)
unfoldable pub refusals : List Answer → ℕ
refusals [] = 0
refusals (hit v ∷ said) = refusals said
refusals (miss ∷ said) = refusals said
refusals (stored ∷ said) = refusals said
refusals (no_space ∷ said) = 1 + refusals said
refusals (invalidated ∷ said) = refusals said
refusals (number n ∷ said) = refusals said

-- ---- Sequences of calls (rule D1)

-- the book after a sequence of calls, in their order
unfoldable pub after_calls : Setup → List Call → Book → Book
after_calls p [] bk = bk
after_calls p (c ∷ cs) bk = after_calls p cs (after_call p c bk)

-- what each call answers
unfoldable pub replies : Setup → List Call → Book → List (Option (List Answer))
replies p [] bk = []
replies p (c ∷ cs) bk = reply_to p c bk ∷ replies p cs (after_call p c bk)

-- a trace is all events that happened, the latest first: the book that it leaves
unfoldable pub run : Setup → Book → List Event → Book
run p bk [] = bk
run p bk (ev ∷ h) = after p ev (run p bk h)

-- the trace h with some events more, given in their order
unfoldable pub onto : List Event → List Event → List Event
onto h [] = h
onto h (ev ∷ evs) = onto (ev ∷ h) evs

-- the trace h with a sequence of calls more
unfoldable pub traced : Setup → Book → List Event → List Call → List Event
traced p bk h [] = h
traced p bk h (c ∷ cs) = traced p bk (onto h (happening p c (run p bk h))) cs

-- ---- The shards that a call can touch: those of its keys, every one where a push drops everything (rule D4)

pub data Shards : Type 0 where
  these : List ℕ → Shards
  all_shards : Shards

-- the shards of some keys
unfoldable pub homes : Setup → List Keyed → List ℕ
homes p [] = []
homes p (q ∷ qs) = p.shard_of (key_of q) ∷ homes p qs

-- (a new epoch has no key, and a refused call does nothing in any shard)
unfoldable pub shards_of : Setup → Call → Shards
shards_of p (planning t e ws short) = these (homes p (lookups t e ws))
shards_of p (resolving e ws) = these (homes p (stores e ws))
shards_of p (resolving7 e ws) = these (homes p (stores e ws))
shards_of p (push ks) = these (homes p (invalidations ks))
shards_of p push_all = all_shards
shards_of p (single q) = these (homes p (q ∷ []))
shards_of p take_epoch = these []
shards_of p refused = these []

-- no shard in common
abbrev pub NotAmong : ℕ → List ℕ → Type 0
NotAmong s [] = Unit {0}
NotAmong s (r ∷ rs) = (s ≢ r) × NotAmong s rs

abbrev pub Apart : List ℕ → List ℕ → Type 0
Apart [] rs = Unit {0}
Apart (s ∷ ss) rs = NotAmong s rs × Apart ss rs

-- all shards and some have those in common
abbrev pub NoneCommon : Shards → Shards → Type 0
NoneCommon (these ss) (these rs) = Apart ss rs
NoneCommon (these ss) all_shards = ss ≡ []
NoneCommon all_shards (these rs) = rs ≡ []
NoneCommon all_shards all_shards = ⊥

-- one name that opens what a call does
unfoldable pub call-defs : Unit {0}
unfolding events_of is_refused remaining happening after_call reply_to
call-defs = tt
