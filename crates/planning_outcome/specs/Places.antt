-- Keys on the rows before a planning, what a peek or a lookup tells of each, and the outcome that follows: one law for each path of the code.
-- Assumes nothing.
use Rattle.std.specs.Prelude.{◌≡◌, ℕ, ◌-◌, ◌≤◌, length}
use Rattle.std.proofs.Math.Path.{refl, ap, ap₂}
use Rattle.std.proofs.Common.{sym, ◌∙◌, arith}
use mathlib.Core.List.{List, [], ◌∷◌}
use Rattle.buffer.specs.Same.{Bytes}
use Rattle.buffer.specs.Part.{part}
use Rattle.buffer.specs.PartLaws.{length_part}
use Rattle.call_record.specs.Record.{Command}
use Rattle.cursor.specs.At.{range_bytes, RangeIn, command_of}
use Rattle.cursor.specs.declared.Head.{Head}
use Rattle.cursor.specs.declared.Range.{Range}
use Rattle.command_key.specs.Key.{key_bytes}
use Rattle.command_key.specs.declared.CommandKey.TheVariants.{Joined, Named}
use Rattle.book.specs.Book.{Row, Setup, Book, Answer, lookup, answer_to, effect}
use Rattle.book.specs.Calls.{Wanted}
use Rattle.book.specs.Lookups.{dry}
use Rattle.planning.specs.Ask.{Ask, nothing, uncacheable, one_key, several_keys}
use Rattle.planning.specs.Outcome as plan
use Rattle.planning.proofs.Passes.{outcome_on}
use Rattle.shard_lookup.specs.Looked.{Told}
use Rattle.shard_lookup.specs.declared.Looked.{Looked}
use Rattle.shard_lookup.specs.declared.Looked.TheVariants.{Hit, Miss}
use Rattle.sharded_lru.specs.Lent.{effect_in}
use Rattle.planning_ask.specs.Asked.{several_name, path_in, keys_in, wanted_in, SeveralIn}
use Rattle.planning_ask.specs.Keys.{whole-key, part-key}
use Rattle.planning_ask.specs.declared.Several.{Several}
use Rattle.planning_outcome.specs.Result.{said_on, place_on, places_on, several_item, outcome_for, TellsItem, Tells, PlaceTold}
use Rattle.planning_outcome.specs.declared.Served.TheVariants.{Value, Values}
use Rattle.planning_outcome.specs.declared.CacheableCommand.TheVariants.{Single, Multiple}
use Rattle.planning_outcome.specs.declared.PrepCacheItem.{PrepCacheItem}
use Rattle.planning_outcome.specs.declared.PrepCacheItem.TheVariants.{Cached, NotCached, NotCacheable}
use Rattle.planning_outcome.specs.declared.CachingResult.TheVariants.{Item, Ignored}

-- ---- on a book

-- the answers on a book's rows are those of its dry pass
pub said-dry : (p : Setup) (bk : Book) (t e : ℕ) (ws : List Wanted) → dry p bk t e ws ≡ said_on p bk.rows t e ws
unfolding dry said_on answer_to effect
said-dry p bk t e [] = refl
said-dry p bk t e (w ∷ ws) = ap₂ ◌∷◌ refl (said-dry p bk t e ws)

-- so is a command's outcome
pub outcome-on : (p : Setup) (bk : Book) (asks : Command → Ask) (t e : ℕ) (c : Command) → outcome_on p bk asks t e c ≡ outcome_for p bk.rows t e asks c
unfolding outcome_on outcome_for
outcome-on p bk asks t e c = ap (plan.outcome c (asks c)) (said-dry p bk t e (plan.wants c (asks c)))

-- ---- what is told of a key's place

-- it is filled by these bytes of the arena
pub told-hit : (a : Bytes) (w : Wanted) (q : plan.Place) (r : Looked) (from to : ℕ) → r ≡ Hit from to → PlaceTold a w q r
    → (from ≤ to) × (to ≤ length a) × (q ≡ plan.filled (part a from (to - from))) × (to - from ≡ length (part a from (to - from)))
told-hit a w q r from to e h =
    let k : (from ≤ to) × (to ≤ length a) × (q ≡ plan.filled (part a from (to - from))) = rw e at h in
    let x = k.0 in
    let y = k.1 in
    (x, y, k.2, sym (length_part a from (to - from) (omega arith)))

-- it waits
pub told-miss : (a : Bytes) (w : Wanted) (q : plan.Place) (r : Looked) (n : ℕ) → r ≡ Miss n → PlaceTold a w q r → q ≡ plan.waiting w
told-miss a w q r n e h = rw e at h

-- ---- several keys, by how many wait

-- none
pub item-served : (ps : List plan.Place) (n : Bytes) (path : List Bytes) (x : ℕ) → length (plan.missing ps) ≡ 0
    → plan.multiple_item (plan.missing ps) n ps path x ≡ plan.cached (plan.values (plan.served_values ps))
item-served ps n path x = go (plan.missing ps)
  where
    go : (ws : List Wanted) → length ws ≡ 0 → plan.multiple_item ws n ps path x ≡ plan.cached (plan.values (plan.served_values ps))
    go [] l = unfold plan.multiple_item in refl
    go (w ∷ ws) l = absurd (omega arith)

-- some
pub item-missing : (ps : List plan.Place) (n : Bytes) (path : List Bytes) (x : ℕ) → (length (plan.missing ps) ≡ 0 → ⊥)
    → plan.multiple_item (plan.missing ps) n ps path x ≡ plan.not_cached (plan.multiple n ps path x)
item-missing ps n path x = go (plan.missing ps)
  where
    go : (ws : List Wanted) → (length ws ≡ 0 → ⊥) → plan.multiple_item ws n ps path x ≡ plan.not_cached (plan.multiple n ps path x)
    go [] l = absurd (l refl)
    go (w ∷ ws) l = unfold plan.multiple_item in refl

module _ (p : Setup) (rows : ℕ → Row) (t e : ℕ) where
  -- each key with its answer
  pub places-on : (ws : List Wanted) → plan.places (said_on p rows t e ws) ws ≡ places_on p rows t e ws
  unfolding plan.places plan.place said_on places_on place_on
  places-on [] = refl
  places-on (w ∷ ws) = ap₂ ◌∷◌ refl (places-on ws)

  -- ---- one key

  -- what a lookup's effect tells, it tells of the key's place
  pub told-place : (a : Bytes) (w : Wanted) (k c : Bytes) (r : Looked) → w.key ≡ k → w.command ≡ c → Told a (effect_in p (lookup k c t e) rows) r
      → PlaceTold a w (place_on p rows t e w) r
  unfolding place_on plan.place_by
  told-place a w k c (Hit from to) q d h =
      let z : (effect_in p (lookup w.key w.command t e) rows).answer ≡ (effect_in p (lookup k c t e) rows).answer = rw (q, d) in
      (h.0, h.1, ap (λ (x : Answer). plan.place_by x w) (z ∙ h.2))
  told-place a w k c (Miss n) q d h =
      let z : (effect_in p (lookup w.key w.command t e) rows).answer ≡ (effect_in p (lookup k c t e) rows).answer = rw (q, d) in
      ap (λ (x : Answer). plan.place_by x w) (z ∙ h.0)

  -- of one key
  pub whole-place : (s a : Bytes) (h : Head) (k : Range) (r : Looked) → Told a (effect_in p (lookup (range_bytes s k) (key_bytes s (Joined h.args)) t e) rows) r
      → PlaceTold a (plan.whole_key (command_of s h) (range_bytes s k)) (place_on p rows t e (plan.whole_key (command_of s h) (range_bytes s k))) r
  unfolding plan.whole_key
  whole-place s a h k r w = told-place a (plan.whole_key (command_of s h) (range_bytes s k)) (range_bytes s k) _ r refl (whole-key s h (range_bytes s k)) w

  -- of one of several
  pub part-place : (s a : Bytes) (v : Several) (k : Range) (r : Looked) → SeveralIn s v
      → Told a (effect_in p (lookup (range_bytes s k) (key_bytes s (Named v.json k v.path)) t e) rows) r
      → PlaceTold a (plan.part_key (several_name v.json) (path_in s v) (range_bytes s k))
      (place_on p rows t e (plan.part_key (several_name v.json) (path_in s v) (range_bytes s k))) r
  unfolding plan.part_key
  part-place s a v k r i w = told-place a (plan.part_key (several_name v.json) (path_in s v) (range_bytes s k)) (range_bytes s k) _ r refl (part-key s v k i) w

  -- ---- the outcome, by what the command asks for

  module _ (asks : Command → Ask) (c : Command) where
    pub outcome-nothing : asks c ≡ nothing → outcome_for p rows t e asks c ≡ plan.ignored
    unfolding outcome_for plan.outcome
    outcome-nothing q = rw q

    pub outcome-uncacheable : asks c ≡ uncacheable → outcome_for p rows t e asks c ≡ plan.item plan.not_cacheable
    unfolding outcome_for plan.outcome
    outcome-uncacheable q = rw q

    pub outcome-one : (k : Bytes) (x : ℕ) → asks c ≡ one_key k x
        → outcome_for p rows t e asks c ≡ plan.item (plan.single_item (place_on p rows t e (plan.whole_key c k)) x)
    unfolding outcome_for plan.outcome plan.wants plan.place said_on place_on
    outcome-one k x q = rw q

    pub outcome-several : (s : Bytes) (v : Several) (x : ℕ) → asks c ≡ several_keys (several_name v.json) (keys_in s v) (path_in s v) x
        → outcome_for p rows t e asks c ≡ plan.item (several_item p rows t e s v x)
    unfolding outcome_for plan.outcome plan.wants
    outcome-several s v x q = rw (q, places-on)

  -- ---- the outcome

  module _ (s a : Bytes) where
    -- one key, served
    pub single-hit : (c : Command) (k : Range) (x from to : ℕ)
        → PlaceTold a (plan.whole_key c (range_bytes s k)) (place_on p rows t e (plan.whole_key c (range_bytes s k))) (Hit from to)
        → TellsItem p rows t e s a c (plan.single_item (place_on p rows t e (plan.whole_key c (range_bytes s k))) x)
        (Cached (Value (record { start = from; end = to })))
    unfolding plan.single_item
    single-hit c k x from to w = record { is = rw w.2; inside = (w.0, w.1) }

    -- one key, missing
    pub single-miss : (c : Command) (k : Range) (x n : ℕ) → RangeIn s k
        → PlaceTold a (plan.whole_key c (range_bytes s k)) (place_on p rows t e (plan.whole_key c (range_bytes s k))) (Miss n)
        → TellsItem p rows t e s a c (plan.single_item (place_on p rows t e (plan.whole_key c (range_bytes s k))) x) (NotCached (Single k x))
    unfolding plan.single_item
    single-miss c k x n i w = record { is = rw w; inside = i }

    module _ (c : Command) (v : Several) (i : SeveralIn s v) (x n : ℕ) (q : n ≡ length (plan.missing (places_on p rows t e (wanted_in s v)))) where
      abbrev ps : List plan.Place
      ps = places_on p rows t e (wanted_in s v)

      -- several, none missing
      pub several-served : n ≡ 0 → TellsItem p rows t e s a c (several_item p rows t e s v x) (Cached (Values v))
      several-served z = record { is = sym (item-served ps (several_name v.json) (path_in s v) x (sym q ∙ z)); inside = (i, sym q ∙ z) }

      -- several, some missing
      pub several-missing : (n ≡ 0 → ⊥) → TellsItem p rows t e s a c (several_item p rows t e s v x) (NotCached (Multiple v n x))
      several-missing z = record { is = sym (item-missing ps (several_name v.json) (path_in s v) x (λ l. z (q ∙ l))); inside = (i, q, omega arith) }

    -- ---- by what the command asks for

    module _ (asks : Command → Ask) (c : Command) where
      pub tells-nothing : asks c ≡ nothing → Tells p rows t e s a c (outcome_for p rows t e asks c) Ignored
      tells-nothing q = record { is = sym (outcome-nothing asks c q); inside = tt }

      pub tells-uncacheable : asks c ≡ uncacheable → Tells p rows t e s a c (outcome_for p rows t e asks c) (Item NotCacheable)
      tells-uncacheable q = record { is = sym (outcome-uncacheable asks c q); inside = tt }

      pub tells-item : (o : plan.PrepCacheItem) (r : PrepCacheItem) → outcome_for p rows t e asks c ≡ plan.item o → TellsItem p rows t e s a c o r
          → Tells p rows t e s a c (outcome_for p rows t e asks c) (Item r)
      tells-item o r q w = record { is = ap plan.item w.is ∙ sym q; inside = w.inside }
