-- A cache that holds nothing: every key waits on it, so what is sent for a command is told by what it asks for. Assumes nothing.
-- Letters: g settings, a the arena's bytes, t clock, e epoch, s the record's bytes, h the command's head, v several keys, r a command's outcome and its keys.
use Rattle.std.specs.Prelude.{◌≡◌, ℕ, ◌≤◌, length, replicate}
use Rattle.std.proofs.Math.Path.{refl}
use Rattle.std.proofs.Common.{sym, ap, ◌∙◌, length-take-le}
use mathlib.Core.List.{List, [], ◌∷◌}
use Rattle.buffer.specs.Same.{Bytes}
use Rattle.config.specs.Limits.{max_bytes}
use Rattle.config.specs.declared.Settings.{Settings}
use Rattle.call_record.specs.Record.{Command}
use Rattle.cursor.specs.At.{range_bytes, RangeIn, command_of}
use Rattle.cursor.specs.declared.Head.{Head}
use Rattle.cursor.specs.declared.Range.{Range}
use Rattle.book.specs.Book.{Row, find, lookup_item, effect_on}
use Rattle.book.proofs.SoundLaws.{sound-nil}
use Rattle.book.specs.Calls.{Wanted}
use Rattle.arena.proofs.Empty.{zeros-empty}
use Rattle.planning.specs.Ask as asks
use Rattle.planning.specs.Ask.{ask}
use Rattle.planning.specs.Outcome as plan
use Rattle.planning.specs.Sent.{keys_of, sends, sent_bytes}
use Rattle.planning.proofs.Small.{parts-count}
use Rattle.planning_ask.specs.Asked.{several_name, path_in, keys_in, wanted_in, SeveralIn}
use Rattle.planning_ask.specs.declared.Several.{Several}
use Rattle.sharded_lru.specs.Laws.{sized, lent_same}
use Rattle.sharded_lru.specs.Lent.{setup_now, Lent, Arena}
use Rattle.planning_outcome.specs.Result.{place_on, places_on, outcome_for, several_item, Tells}
use Rattle.planning_outcome.specs.Places.{tells-nothing, tells-uncacheable, tells-item, outcome-one}
use Rattle.planning_outcome.specs.Places.{outcome-several, single-miss, several-served, several-missing}
use Rattle.planning_outcome.specs.declared.Served.TheVariants.{Values}
use Rattle.planning_outcome.specs.declared.CacheableCommand.TheVariants.{Single, Multiple}
use Rattle.planning_outcome.specs.declared.PrepCacheItem.TheVariants.{Cached, NotCached, NotCacheable}
use Rattle.planning_outcome.specs.declared.CachingResult.TheVariants.{Item, Ignored}
use Rattle.planning_places.specs.Source.{keys_at, KeysIn}
use Rattle.planning_places.specs.declared.Source.{Source}
use Rattle.planning_places.specs.declared.Source.TheVariants.{Keys}
use Rattle.planning_outcome.specs.Sizes.{sent_for}
use Rattle.planning_send.specs.Sends.{sent_with, ResultSends, Holds, sent-held}
use Rattle.trap_send.specs.declared.Waiting.{Waiting}

-- rows with no item
abbrev pub no_rows : ℕ → Row
no_rows = λ i. []

-- the arena holds nothing
pub record Blank (g : Settings) (a : Bytes) : Type 0 where
  pub none : (rows : ℕ → Row) → Lent g a rows → rows ≡ no_rows

-- an arena of zeros
pub zeros-blank : (g : Settings) (a : Bytes) → Arena g a → a ≡ replicate (length a) 0 → Blank g a
zeros-blank g a w z =
    let v = w.lent in
    record {
      none = λ rows o.
          lent_same o
          (record {
            some = v.some;
            few = v.few;
            keyed = v.keyed;
            least = v.least;
            inside = v.inside;
            largest = v.largest;
            image = record {
              formed = record { fine = λ i. record { sound = sound-nil (setup_now g) i; fits = tt }; beyond = λ i h. refl };
              bytes = zeros-empty (setup_now g) (length a) (sized g a w.rows v) ∙ sym z;
            };
          });
    }

-- what is sent for the command where nothing is held
pub record Waits (g : Settings) (t e : ℕ) (s : Bytes) (h : Head) (r : Waiting) : Type 0 where
  pub sent : sent_for (setup_now g) no_rows t e (ask g t) g.mode (command_of s h) ≡ sent_with g.mode s h s r.keys r.result
  pub inside : ResultSends s s r.keys r.result

-- ---- every key waits

module _ (g : Settings) (t e : ℕ) where
  place-waits : (w : Wanted) → place_on (setup_now g) no_rows t e w ≡ plan.waiting w
  unfolding place_on plan.place_by effect_on lookup_item find
  place-waits w = refl

  all-missing : (ws : List Wanted) → plan.missing (places_on (setup_now g) no_rows t e ws) ≡ ws
  unfolding places_on plan.missing
  all-missing [] = refl
  all-missing (w ∷ ws) = rw (place-waits w) (ap (λ (l : List Wanted). w ∷ l) (all-missing ws))

-- their keys
keys-of : (n : Bytes) (path ks : List Bytes) → keys_of (plan.part_keys n path ks) ≡ ks
unfolding keys_of plan.part_keys plan.part_key
keys-of n path [] = refl
keys-of n path (k ∷ ks) = ap (λ (l : List Bytes). k ∷ l) (keys-of n path ks)

module _ (g : Settings) (t e : ℕ) (s : Bytes) (h : Head) (l : length s ≤ max_bytes) where
  abbrev c : Command
  c = command_of s h

  -- by what the outcome tells
  waits-told : (r : Waiting) → Tells (setup_now g) no_rows t e s [] c (outcome_for (setup_now g) no_rows t e (ask g t) c) r.result
      → Holds g no_rows t e s s r.keys r.result → Waits g t e s h r
  waits-told r w k =
      let z = sent-held g.mode g no_rows t e s [] h s r.keys l r.result w.inside k in
      record { sent = ap (λ (o : plan.CachingResult). sent_bytes (sends g.mode c o)) (sym w.is) ∙ z.0; inside = z.1 }

  pub waits-nothing : (f : Source) → asks.ask g t c ≡ asks.nothing → Waits g t e s h (record { result = Ignored; keys = f })
  waits-nothing f q = waits-told _ (tells-nothing (setup_now g) no_rows t e s [] (ask g t) c q) tt

  pub waits-uncacheable : (f : Source) → asks.ask g t c ≡ asks.uncacheable → Waits g t e s h (record { result = Item NotCacheable; keys = f })
  waits-uncacheable f q = waits-told _ (tells-uncacheable (setup_now g) no_rows t e s [] (ask g t) c q) tt

  pub waits_one : (f : Source) (k : Range) (x : ℕ) → RangeIn s k → asks.ask g t c ≡ asks.one_key (range_bytes s k) x
      → Waits g t e s h (record { result = Item (NotCached (Single k x)); keys = f })
  waits_one f k x i q =
      waits-told _
      (tells-item (setup_now g) no_rows t e s [] (ask g t) c _ _ (outcome-one (setup_now g) no_rows t e (ask g t) c (range_bytes s k) x q)
      (single-miss (setup_now g) no_rows t e s [] c k x 0 i (place-waits g t e (plan.whole_key c (range_bytes s k)))))
      tt

  module _ (v : Several) (x : ℕ) (i : SeveralIn s v) (q : asks.ask g t c ≡ asks.several_keys (several_name v.json) (keys_in s v) (path_in s v) x) where
    -- as many wait as there are keys
    number : v.keys ≡ length (plan.missing (places_on (setup_now g) no_rows t e (wanted_in s v)))
    number =
        sym (ap length (all-missing g t e (wanted_in s v)) ∙ parts-count (several_name v.json) (path_in s v) (keys_in s v)
        ∙ length-take-le v.keys _ i.enough)

    outcome-is : outcome_for (setup_now g) no_rows t e (ask g t) c ≡ plan.item (several_item (setup_now g) no_rows t e s v x)
    outcome-is = outcome-several (setup_now g) no_rows t e (ask g t) c s v x q

    -- none
    pub waits-none : (f : Source) → v.keys ≡ 0 → Waits g t e s h (record { result = Item (Cached (Values v)); keys = f })
    waits-none f z =
        waits-told _ (tells-item (setup_now g) no_rows t e s [] (ask g t) c _ _ outcome-is
        (several-served (setup_now g) no_rows t e s [] c v i x v.keys number z)) tt

    -- some
    pub waits-several : (v.keys ≡ 0 → ⊥) → Waits g t e s h (record { result = Item (NotCached (Multiple v v.keys x)); keys = Keys v.args })
    unfolding keys_at KeysIn
    waits-several z =
        waits-told _ (tells-item (setup_now g) no_rows t e s [] (ask g t) c _ _ outcome-is
        (several-missing (setup_now g) no_rows t e s [] c v i x v.keys number z))
        (sym (ap keys_of (all-missing g t e (wanted_in s v)) ∙ keys-of (several_name v.json) (path_in s v) (keys_in s v)), (i.here, i.enough))
