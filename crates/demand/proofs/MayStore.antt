-- What a call stores may be stored: the book's calls for given calls keep the limits of what a shard can hold. Assumes of the calls what the types of their
-- parameters say.
use Rattle.std.specs.Prelude.{ℕ, Bool, length}
use mathlib.Core.List.{List, [], ◌∷◌}
use Rattle.buffer.specs.Same.{Bytes}
use Rattle.config.specs.Config.{checked}
use Rattle.resp3.specs.Ends.{is_value}
use Rattle.format.specs.Lists.{All}
use Rattle.book.specs.Book as book
use Rattle.book.specs.Calls as calls
use Rattle.book.specs.Calls.{Call, Wanted, ons, lookups, invalidations, events_of}
use Rattle.book.proofs.Storable.{StorableEvents, StorableCalls}
use Rattle.arena.specs.Decode.{may_store}
use Rattle.single_calls.specs.AsCallLaws.{call-storable}
use Rattle.caching_cmd.specs.ToldLaws.{told-storable}
use Rattle.demand.specs.Call.{RealCall, planning, resolving, push, lookup, store, invalidate, new_epoch, Given, book_call, book_calls}
use Rattle.demand.proofs.BookCalls.{of-push, of-planning, of-fine}

-- a call of the book whose stores may be stored
abbrev MayBe : Call → Type 0
MayBe c = StorableEvents (may_store is_value) (events_of c)

-- a refused call stores nothing
refused-may : MayBe calls.refused
unfolding events_of
refused-may = tt

-- a push stores nothing
keys-storable : (ks : List Bytes) → StorableEvents (may_store is_value) (ons (invalidations ks))
unfolding ons invalidations
keys-storable [] = tt
keys-storable (k ∷ ks) = (tt, keys-storable ks)

push-may : (ks : List Bytes) → MayBe (calls.push ks)
unfolding events_of
push-may ks = keys-storable ks

all-may : MayBe calls.push_all
unfolding events_of
all-may = (tt, tt)

-- nor does a planning
lookups-storable : (t e : ℕ) (ws : List Wanted) → StorableEvents (may_store is_value) (ons (lookups t e ws))
unfolding ons lookups
lookups-storable t e [] = tt
lookups-storable t e (x ∷ ws) = (tt, lookups-storable t e ws)

planning-may : (t e : ℕ) (ws : List Wanted) (test : List book.Answer → Bool) → MayBe (calls.planning t e ws test)
unfolding events_of
planning-may t e ws test = lookups-storable t e ws

-- nor a new epoch
epoch-may : MayBe calls.take_epoch
unfolding events_of
epoch-may = (tt, tt)

module _ (size n : ℕ) where
  -- what a given call tells the book, and some given calls
  call-may : (c : RealCall) → Given c → MayBe (book_call size n c)
  unfolding book_call
  call-may (planning m d t e bytes plan send) g =
      of-fine MayBe (checked size m d n) _ refused-may
      (λ s. of-planning MayBe s t e bytes (length plan) (length send) refused-may (planning-may t e))
  call-may (resolving m d t e plan replies answer) g =
      of-fine MayBe (checked size m d n) _ refused-may (λ s. told-storable s.mode plan replies t e (length answer) g.3)
  call-may (push m d bytes) g = of-fine MayBe (checked size m d n) _ refused-may (λ s. of-push MayBe push-may all-may bytes refused-may)
  call-may (lookup m d t e k c) g = of-fine MayBe (checked size m d n) _ refused-may (λ s. call-storable (book.lookup k c t e) tt)
  call-may (store m d e k c v x) g = of-fine MayBe (checked size m d n) _ refused-may (λ s. call-storable (book.store k c v x e) (g.6, g.2))
  call-may (invalidate m d k) g = of-fine MayBe (checked size m d n) _ refused-may (λ s. call-storable (book.invalidate k) tt)
  call-may new_epoch g = epoch-may

  pub calls-may : (cs : List RealCall) → All Given cs → StorableCalls (may_store is_value) (book_calls size n cs)
  unfolding book_calls
  calls-may [] g = tt
  calls-may (c ∷ cs) g = (call-may c g.0, calls-may cs g.1)
