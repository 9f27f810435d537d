-- Worked cases of residences, each a theorem by itself, by computing. They lean on the definitions of Book.antt, Calls.antt and Residence.antt alone.
-- All run on a fresh book of one shard of two keys and 400 bytes, with counts of zero, unless they say otherwise. A trace has its latest event first.
use Rattle.std.specs.Prelude.{◌≡◌, refl, ℕ, Bool, true, false, List, [], ◌∷◌}
use Rattle.std.proofs.Common.{arith}
use Rattle.std.proofs.Math.Option.{none}
use Rattle.book.specs.Book.{fresh, lookup, store, invalidate, Event, on, invalidate_all, new_epoch, book-defs}
use Rattle.book.specs.Calls.{run, push_all, single, shards_of, homes, NoneCommon}
use Rattle.book.specs.Residence.{item_of, has_under, leaves, ends, KeptStore, is_stored, kept_by, cons_if, kept_in, opening, Residence, latest_of}
use Rattle.book.specs.Residence.{latest_under, later_stores, stores_of, expiry_of}
use Rattle.book.proofs.Cases.{holding, none_yet, a, b, d, get, len, u, w, key3, command6, value7}

-- whether an event ends the stay of a's item after the trace
unfoldable pub ends_after : Event → List Event → Bool
ends_after ev h = ends (holding 400) a ev (run (holding 400) (fresh none_yet) h)

unfoldable pub case-defs : Unit {0}
unfolding ends_after run item_of has_under leaves ends is_stored kept_by cons_if kept_in latest_of latest_under later_stores stores_of expiry_of book-defs
case-defs = tt

-- ---- ends

-- a lookup at the expiry does not end it, one past it does, and so does one under another epoch
pub lasts-at-expiry : ends_after (on (lookup a get 10 7)) (on (store a get u 10 7) ∷ []) ≡ false
unfolding case-defs
lasts-at-expiry = refl

pub ends-past-expiry : ends_after (on (lookup a get 11 7)) (on (store a get u 10 7) ∷ []) ≡ true
unfolding case-defs
ends-past-expiry = refl

pub ends-by-epoch : ends_after (on (lookup a get 10 8)) (on (store a get u 10 7) ∷ []) ≡ true
unfolding case-defs
ends-by-epoch = refl

-- a lookup that misses only for the command does not
pub lasts-command-missed : ends_after (on (lookup a len 10 7)) (on (store a get u 10 7) ∷ []) ≡ false
unfolding case-defs
lasts-command-missed = refl

-- a store of the key under its epoch does not end it, past the expiry too; one under another epoch does
pub lasts-update : ends_after (on (store a len w 20 7)) (on (store a get u 10 7) ∷ []) ≡ false
unfolding case-defs
lasts-update = refl

pub ends-replaced : ends_after (on (store a get w 20 8)) (on (store a get u 10 7) ∷ []) ≡ true
unfolding case-defs
ends-replaced = refl

-- a store of a third key to the full shard ends that of the oldest, here a's, and of no other
pub ends-evicted : ends_after (on (store d get u 10 7)) (on (store b get u 10 7) ∷ on (store a get u 10 7) ∷ []) ≡ true
unfolding case-defs
ends-evicted = refl

pub lasts-newer : ends_after (on (store d get u 10 7)) (on (store a get u 10 7) ∷ on (store b get u 10 7) ∷ []) ≡ false
unfolding case-defs
lasts-newer = refl

-- an invalidation of the key or of all does, of another key not; a new epoch ends none
pub ends-invalidated : ends_after (on (invalidate a)) (on (store a get u 10 7) ∷ []) ≡ true
unfolding case-defs
ends-invalidated = refl

pub lasts-other-key : ends_after (on (invalidate b)) (on (store a get u 10 7) ∷ []) ≡ false
unfolding case-defs
lasts-other-key = refl

pub ends-all : ends_after invalidate_all (on (store a get u 10 7) ∷ []) ≡ true
unfolding case-defs
ends-all = refl

pub lasts-epoch : ends_after new_epoch (on (store a get u 10 7) ∷ []) ≡ false
unfolding case-defs
lasts-epoch = refl

-- ---- begins, and what it holds

-- a store that lacks space is in no residence
pub refused-not-kept : kept_by (holding 79) key3 (on (store key3 command6 value7 10 7)) (fresh none_yet) ≡ none
unfolding case-defs
refused-not-kept = refl

abbrev pub get_store : KeptStore
get_store = record { command = get; value = u; expiry = 10 }

abbrev pub len_store : KeptStore
len_store = record { command = len; value = w; expiry = 20 }

-- two stores under one epoch are one residence, which began with the first; the lookup between them is in it
abbrev pub two : List Event
two = opening a 7 len_store ∷ on (lookup a get 9 7) ∷ opening a 7 get_store ∷ []

unfoldable pub residence-of-two : Residence (holding 400) (fresh none_yet) a two
unfolding case-defs
residence-of-two =
    record {
      epoch = 7;
      first = get_store;
      since = opening a 7 len_store ∷ on (lookup a get 9 7) ∷ [];
      before = [];
      part = refl;
      kept = refl;
      began = refl;
      lasts = (refl, (refl, tt));
    }

-- its stores, the latest first, and its expiry, the latest store's
pub stores-of-two : stores_of residence-of-two ≡ len_store ∷ get_store ∷ []
unfolding case-defs residence-of-two
stores-of-two = refl

pub expiry-of-two : expiry_of residence-of-two ≡ 20
unfolding case-defs residence-of-two
expiry-of-two = refl

-- ---- shards

-- a push of `_` has a shard in common with every call that has a key
pub all-in-common : NoneCommon (shards_of (holding 400) push_all) (shards_of (holding 400) (single (lookup a get 9 7))) → ⊥
unfolding case-defs shards_of homes
all-in-common e = let z : ◌≡◌ {A = ℕ} 0 1 = cc in absurd (omega arith)
