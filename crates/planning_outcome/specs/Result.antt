-- What a command's outcome, as the code holds it, stands for in the terms of planning's definitions (`planning/specs/Outcome.antt`): a served value is
-- a range of the arena, several keys are looked up in the rows again wherever their places are needed. Assumes nothing: these are definitions.
-- Letters: p setup, rows the rows that the arena holds, t clock, e epoch, s the record's bytes, a the arena's, c command, w a key with its command key,
-- v several keys.
use Rattle.std.specs.Prelude.{◌≡◌, List, [], ◌∷◌, ℕ, ◌-◌, ◌≤◌, ◌<◌, length}
use Rattle.buffer.specs.Same.{Bytes}
use Rattle.buffer.specs.Part.{part}
use Rattle.call_record.specs.Record.{Command}
use Rattle.cursor.specs.At.{range_bytes, RangeIn}
use Rattle.book.specs.Book.{Row, Setup, Answer, lookup}
use Rattle.book.specs.Calls.{Wanted}
use Rattle.planning.specs.Outcome as plan
use Rattle.shard_lookup.specs.declared.Looked.{Looked}
use Rattle.shard_lookup.specs.declared.Looked.TheVariants.{Hit, Miss}
use Rattle.sharded_lru.specs.Lent.{effect_in}
use Rattle.planning.specs.Ask.{Ask}
use Rattle.planning_ask.specs.Asked.{several_name, path_in, wanted_in, SeveralIn}
use Rattle.planning_ask.specs.declared.Several.{Several}
use Rattle.planning_outcome.specs.declared.Served.{Served}
use Rattle.planning_outcome.specs.declared.Served.TheVariants.{Value, Values}
use Rattle.planning_outcome.specs.declared.CacheableCommand.{CacheableCommand}
use Rattle.planning_outcome.specs.declared.CacheableCommand.TheVariants.{Single, Multiple}
use Rattle.planning_outcome.specs.declared.PrepCacheItem.{PrepCacheItem}
use Rattle.planning_outcome.specs.declared.PrepCacheItem.TheVariants.{Cached, NotCached, NotCacheable}
use Rattle.planning_outcome.specs.declared.CachingResult.{CachingResult}
use Rattle.planning_outcome.specs.declared.CachingResult.TheVariants.{Item, Ignored}

module _ (p : Setup) (rows : ℕ → Row) (t e : ℕ) where
  -- the answer to the lookup of a key, on these rows
  abbrev pub answer_on : Wanted → Answer
  answer_on w = (effect_in p (lookup w.key w.command t e) rows).answer

  -- the answers to several
  unfoldable pub said_on : List Wanted → List Answer
  said_on [] = []
  said_on (w ∷ ws) = answer_on w ∷ said_on ws

  -- what the answer makes of the key
  unfoldable pub place_on : Wanted → plan.Place
  place_on w = plan.place_by (answer_on w) w

  -- each key looked up on these rows
  unfoldable pub places_on : List Wanted → List plan.Place
  places_on [] = []
  places_on (w ∷ ws) = place_on w ∷ places_on ws

  -- the outcome of several keys
  abbrev pub several_item : Bytes → Several → ℕ → plan.PrepCacheItem
  several_item s v x =
      plan.multiple_item (plan.missing (places_on (wanted_in s v))) (several_name v.json) (places_on (wanted_in s v)) (path_in s v) x

  -- a command's outcome, from the answers on these rows (`outcome_on` of planning/proofs/Passes.antt, on a book: Places.antt, `outcome-on`)
  unfoldable pub outcome_for : (Command → Ask) → Command → plan.CachingResult
  outcome_for asks c = plan.outcome c (asks c) (said_on (plan.wants c (asks c)))

  -- ---- what an outcome stands for

  module _ (s a : Bytes) (c : Command) where
    abbrev pub served_of : Served → plan.Served
    served_of (Value g) = plan.value (range_bytes a g)
    served_of (Values v) = plan.values (plan.served_values (places_on (wanted_in s v)))

    abbrev pub command_for : CacheableCommand → plan.CacheableCommand
    command_for (Single k x) = plan.single (plan.whole_key c (range_bytes s k)) x
    command_for (Multiple v n x) = plan.multiple (several_name v.json) (places_on (wanted_in s v)) (path_in s v) x

    abbrev pub item_for : PrepCacheItem → plan.PrepCacheItem
    item_for (Cached b) = plan.cached (served_of b)
    item_for (NotCached cc) = plan.not_cached (command_for cc)
    item_for NotCacheable = plan.not_cacheable

    abbrev pub result_of : CachingResult → plan.CachingResult
    result_of (Item i) = plan.item (item_for i)
    result_of Ignored = plan.ignored

    -- ---- what it names lies inside, and the number of missing keys is the true one

    abbrev pub ServedIn : Served → Type 0
    ServedIn (Value g) = RangeIn a g
    ServedIn (Values v) = SeveralIn s v × (length (plan.missing (places_on (wanted_in s v))) ≡ 0)

    abbrev pub CommandIn : CacheableCommand → Type 0
    CommandIn (Single k x) = RangeIn s k
    CommandIn (Multiple v n x) = SeveralIn s v × (n ≡ length (plan.missing (places_on (wanted_in s v)))) × (0 < n)

    abbrev pub ItemIn : PrepCacheItem → Type 0
    ItemIn (Cached b) = ServedIn b
    ItemIn (NotCached cc) = CommandIn cc
    ItemIn NotCacheable = Unit {0}

    abbrev pub ResultIn : CachingResult → Type 0
    ResultIn (Item i) = ItemIn i
    ResultIn Ignored = Unit {0}

    -- ---- the code's outcome is this one of the definition

    pub record TellsItem (o : plan.PrepCacheItem) (i : PrepCacheItem) : Type 0 where
      pub is : item_for i ≡ o
      pub inside : ItemIn i

    pub record Tells (o : plan.CachingResult) (r : CachingResult) : Type 0 where
      pub is : result_of r ≡ o
      pub inside : ResultIn r

-- ---- what a peek or a lookup tells of a key's place: it is filled by the arena's bytes from `from` up to `to`, or it waits

abbrev pub PlaceTold : Bytes → Wanted → plan.Place → Looked → Type 0
PlaceTold a w q (Hit from to) = (from ≤ to) × (to ≤ length a) × (q ≡ plan.filled (part a from (to - from)))
PlaceTold a w q (Miss n) = q ≡ plan.waiting w
