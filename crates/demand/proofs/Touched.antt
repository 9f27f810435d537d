-- Events that touch no shard in common (`Apart` of Words.antt) are of calls without a common shard, as the book's own theorem asks, and the other way round.
-- Assumes nothing.
use Rattle.std.specs.Prelude.{◌≡◌, ℕ}
use Rattle.std.proofs.Math.Path.{refl, sym, ap}
use Rattle.std.proofs.Common.{◌∙◌, arith}
use mathlib.Core.List.{List, [], ◌∷◌}
use Rattle.std.proofs.Math.ListN.{length}
use Rattle.format.specs.Lists.{All}
use Rattle.book.specs.Book.{Setup, Keyed, on, invalidate_all, key_of}
use Rattle.book.specs.Calls as calls
use Rattle.book.specs.Calls.{Call, invalidations, ons, events_of, homes, these, all_shards, shards_of, NotAmong, NoneCommon}
use Rattle.book.specs.Exchange.{Movable, a_single, a_push, a_push_all, a_refused}
use Rattle.demand.specs.Words.{Touches, Apart}

module _ (p : Setup) where
  -- ---- events with keys

  -- the shard of one is none of theirs
  not-among : (q : Keyed) (rs : List Keyed) → All (λ ev. (i : ℕ) → Touches p i (on q) → Touches p i ev → ⊥) (ons rs)
      → NotAmong (p.shard_of (key_of q)) (homes p rs)
  unfolding ons homes
  not-among q [] d = tt
  not-among q (r ∷ rs) d = (λ e. d.0 (p.shard_of (key_of q)) refl (sym e), not-among q rs d.1)

  keys-apart : (qs rs : List Keyed) → Apart p (ons qs) (ons rs) → calls.Apart (homes p qs) (homes p rs)
  unfolding ons homes
  keys-apart [] rs d = tt
  keys-apart (q ∷ qs) rs d = (not-among q rs d.0, keys-apart qs rs d.1)

  -- an event that touches every shard has none in common with them only where there are none
  every-second : (qs : List Keyed) → Apart p (ons qs) (invalidate_all ∷ []) → homes p qs ≡ []
  unfolding ons homes
  every-second [] d = refl
  every-second (q ∷ qs) d = absurd (d.0.0 (p.shard_of (key_of q)) refl tt)

  every_first : (rs : List Keyed) → Apart p (invalidate_all ∷ []) (ons rs) → homes p rs ≡ []
  unfolding ons homes
  every_first [] d = refl
  every_first (r ∷ rs) d = absurd (d.0.0 (p.shard_of (key_of r)) tt refl)

  -- ---- calls that may move

  -- their events are some with keys, or the one that touches every shard
  data Shape : Call → Type 0 where
    keyed : (x : Call) (qs : List Keyed) → events_of x ≡ ons qs → shards_of p x ≡ these (homes p qs) → Shape x
    every : (x : Call) → events_of x ≡ invalidate_all ∷ [] → shards_of p x ≡ all_shards → Shape x

  shape-of : {x : Call} → Movable x → Shape x
  unfolding events_of shards_of ons homes
  shape-of (a_single q) = keyed _ (q ∷ []) refl refl
  shape-of (a_push ks) = keyed _ (invalidations ks) refl refl
  shape-of a_push_all = every _ refl refl
  shape-of a_refused = keyed _ [] refl refl

  by-shapes : {x y : Call} → Shape x → Shape y → Apart p (events_of x) (events_of y) → NoneCommon (shards_of p x) (shards_of p y)
  by-shapes (keyed x qs e s) (keyed y rs f t) d = rw (s, t) (keys-apart qs rs (rw (e, f) at d))
  by-shapes (keyed x qs e s) (every y f t) d = rw (s, t) (every-second qs (rw (e, f) at d))
  by-shapes (every x e s) (keyed y rs f t) d = rw (s, t) (every_first rs (rw (e, f) at d))
  by-shapes (every x e s) (every y f t) d =
      let both : Apart p (invalidate_all ∷ []) (invalidate_all ∷ []) = rw (e, f) at d in
      absurd (both.0.0 0 tt tt)

  pub none-common : {x y : Call} → Movable x → Movable y → Apart p (events_of x) (events_of y) → NoneCommon (shards_of p x) (shards_of p y)
  none-common m m' d = by-shapes (shape-of m) (shape-of m') d

  -- ---- the other way round

  among-apart : (q : Keyed) (rs : List Keyed) → NotAmong (p.shard_of (key_of q)) (homes p rs)
      → All (λ ev. (i : ℕ) → Touches p i (on q) → Touches p i ev → ⊥) (ons rs)
  unfolding ons homes
  among-apart q [] d = tt
  among-apart q (r ∷ rs) d = (λ i a b. d.0 (a ∙ sym b), among-apart q rs d.1)

  apart-keys : (qs rs : List Keyed) → calls.Apart (homes p qs) (homes p rs) → Apart p (ons qs) (ons rs)
  unfolding ons homes
  apart-keys [] rs d = tt
  apart-keys (q ∷ qs) rs d = (among-apart q rs d.0, apart-keys qs rs d.1)

  second-every : (qs : List Keyed) → homes p qs ≡ [] → Apart p (ons qs) (invalidate_all ∷ [])
  unfolding ons homes
  second-every [] d = tt
  second-every (q ∷ qs) d = absurd (let z : length (homes p (q ∷ qs)) ≡ 0 = ap length d in omega arith)

  first-every : (rs : List Keyed) → homes p rs ≡ [] → Apart p (invalidate_all ∷ []) (ons rs)
  unfolding ons homes
  first-every [] d = (tt, tt)
  first-every (r ∷ rs) d = absurd (let z : length (homes p (r ∷ rs)) ≡ 0 = ap length d in omega arith)

  shapes-apart : {x y : Call} → Shape x → Shape y → NoneCommon (shards_of p x) (shards_of p y) → Apart p (events_of x) (events_of y)
  shapes-apart (keyed x qs e s) (keyed y rs f t) d = rw (e, f) (apart-keys qs rs (rw (s, t) at d))
  shapes-apart (keyed x qs e s) (every y f t) d = rw (e, f) (second-every qs (rw (s, t) at d))
  shapes-apart (every x e s) (keyed y rs f t) d = rw (e, f) (first-every rs (rw (s, t) at d))
  shapes-apart (every x e s) (every y f t) d = absurd (rw (s, t) at d)

  pub events-apart : {x y : Call} → Movable x → Movable y → NoneCommon (shards_of p x) (shards_of p y) → Apart p (events_of x) (events_of y)
  events-apart m m' d = shapes-apart (shape-of m) (shape-of m') d
