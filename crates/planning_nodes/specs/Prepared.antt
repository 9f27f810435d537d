-- What a command's lookups and the nodes written for it come to: its outcome, case by case. Assumes nothing.
-- Letters: g settings, rows the rows before, t clock, e epoch, x client expiry, s the record's bytes, v several keys, a the arena's bytes after, d the plan's
-- before and d₁ after, c command, o outcome, r what is answered.
use Rattle.std.specs.Prelude.{◌≡◌, refl, ℕ, suc, ◌+◌, ◌-◌, ◌^◌, ◌≤◌, ◌<◌, eqb, take}
use Rattle.std.proofs.Common.{sym, ◌∙◌, subst, arith, length-append, drop_at, length-take-le, eqb-true}
use Rattle.std.proofs.Math.Path.{ap}
use mathlib.Core.List.{List, [], ◌∷◌, ◌++◌, append_assoc}
use Rattle.std.proofs.Math.ListN.{length, drop}
use Rattle.std.proofs.lemmas.Bool.{eqb-false}
use Rattle.buffer.specs.Cases.{by_test}
use Rattle.buffer.specs.Same.{Bytes}
use Rattle.buffer.specs.Lists.{drop_past}
use Rattle.buffer.specs.Part.{part, put}
use Rattle.buffer.specs.Step.{put_front}
use Rattle.config.specs.declared.Settings.{Settings}
use Rattle.format.specs.Lists.{enc_all, All}
use Rattle.call_record.specs.Record.{Command}
use Rattle.cursor.specs.At.{range_bytes, RangeIn, command_of}
use Rattle.cursor.specs.declared.Head.{Head}
use Rattle.cursor.specs.declared.Range.{Range}
use Rattle.command_key.specs.declared.CommandKey.TheVariants.{Joined}
use Rattle.command_key.specs.Key.{key_bytes}
use Rattle.cmd.specs.Laws.{Wrote}
use Rattle.book.specs.Book.{Row, Setup}
use Rattle.book.specs.Calls.{Wanted}
use Rattle.planning.specs.Outcome as plan
use Rattle.planning.specs.Outcome.{Place, missing, item, single_item, multiple_item, whole_key, part_keys}
use Rattle.planning.specs.Sent.{keys_of}
use Rattle.planning.proofs.Small.{parts-count}
use Rattle.planning.specs.Plan.{place_nodes, node_bytes, enc_node, hand_on_kind, served_kind, all_served_kind, missing_kind, several_kind, end_kind}
use Rattle.plan_write.specs.Pieces.{length-node}
use Rattle.plan_write.specs.Wrote.{wrote-is, wrote_as, wrote-both, wrote-long}
use Rattle.planning_ask.specs.Asked.{several_name, path_in, keys_in, SeveralIn}
use Rattle.planning_ask.specs.Keys.{whole-key}
use Rattle.planning_ask.specs.declared.Several.{Several}
use Rattle.sharded_lru.specs.Lent.{setup_now}
use Rattle.statistics.specs.declared.Statistics.{Statistics}
use Rattle.planning_outcome.specs.Result.{place_on, places_on, several_item, Tells}
use Rattle.planning_outcome.specs.Places.{item-served, item-missing, single-hit, single-miss, several-served, several-missing}
use Rattle.planning_outcome.specs.declared.Served.TheVariants.{Value, Values}
use Rattle.planning_outcome.specs.declared.CacheableCommand.TheVariants.{Single, Multiple}
use Rattle.planning_outcome.specs.declared.PrepCacheItem.TheVariants.{Cached, NotCached, NotCacheable}
use Rattle.planning_outcome.specs.declared.CachingResult.TheVariants.{Item, Ignored}
use Rattle.planning_outcome.specs.Nodes.{nodes_as, nodes-ignored, nodes-not-cacheable, nodes-value, nodes-single, nodes-values, nodes-multiple}
use Rattle.planning_places.specs.Pieces.{places_now}
use Rattle.planning_places.specs.Source.{FitsPlace, keys_at, KeysIn, keys-held}
use Rattle.planning_places.specs.declared.Source.TheVariants.{Nodes}
use Rattle.planning_send.specs.Sends.{Holds}
use Rattle.planning_nodes.specs.declared.Prepared.{Prepared}

-- the answer tells the outcome o, whose nodes are written at `to`; the keys of several that wait are read from where it says
pub record Prepares (g : Settings) (rows : ℕ → Row) (t e : ℕ) (s a d : Bytes) (to : ℕ) (d₁ : Bytes) (c : Command) (o : plan.CachingResult)
    (r : Prepared) : Type 0 where
  pub tells : Tells (setup_now g) rows t e s a c o r.result
  pub wrote : Wrote d to (nodes_as o) d₁ r.to
  pub holds : Holds g rows t e s d₁ (Nodes r.places) r.result

-- of an outcome under another name
pub prepares-as : (g : Settings) (rows : ℕ → Row) (t e : ℕ) (s a d : Bytes) (to : ℕ) (d₁ : Bytes) (c : Command) (o u : plan.CachingResult) (r : Prepared)
    → u ≡ o
    → Prepares g rows t e s a d to d₁ c o r → Prepares g rows t e s a d to d₁ c u r
prepares-as g rows t e s a d to d₁ c o u r q w = subst (λ (z : plan.CachingResult). Prepares g rows t e s a d to d₁ c z r) (sym q) w

-- ---- several keys

-- as many places as keys
places-length : (p : Setup) (rows : ℕ → Row) (t e : ℕ) (ws : List Wanted) → length (places_on p rows t e ws) ≡ length ws
unfolding places_on
places-length p rows t e [] = refl
places-length p rows t e (w ∷ ws) = ap suc (places-length p rows t e ws)

pub keys-count : (g : Settings) (rows : ℕ → Row) (t e : ℕ) (s : Bytes) (v : Several) → SeveralIn s v → length (places_now g rows t e s v) ≡ v.keys
keys-count g rows t e s v w =
    places-length (setup_now g) rows t e (part_keys (several_name v.json) (path_in s v) (keys_in s v))
    ∙ parts-count (several_name v.json) (path_in s v) (keys_in s v)
    ∙ length-take-le v.keys _ w.enough

-- what stands behind a front that was put at `to`
drop-put : (d H R : Bytes) (to k : ℕ) → length H ≡ k → to ≤ length d → drop (to + k) (put d to (H ++ R)) ≡ R ++ drop (to + length (H ++ R)) d
unfolding put
drop-put d H R to k l h =
    let Z : Bytes = drop (to + length (H ++ R)) d in
    drop_past (take to d) ((H ++ R) ++ Z) to k (length-take-le to d h) ∙ ap (drop k) (append_assoc H R Z) ∙ drop_at H (R ++ Z) k l

module _ (x : ℕ) (ps : List Place) (n : Bytes) (path : List Bytes) where
  -- their number and the places, behind which their end may stand
  abbrev P : Bytes
  P = enc_all enc_node (place_nodes x ps)

  abbrev outcome_of : plan.CachingResult
  outcome_of = item (multiple_item (missing ps) n ps path x)

  pub nodes-served : length (missing ps) ≡ 0 → nodes_as outcome_of ≡ node_bytes all_served_kind [] [] (length ps) ++ P
  nodes-served q = ap (λ (z : plan.PrepCacheItem). nodes_as (item z)) (item-served ps n path x q) ∙ nodes-values x ps q

  pub nodes-missing : (length (missing ps) ≡ 0 → ⊥) → nodes_as outcome_of ≡ node_bytes several_kind [] [] (length ps) ++ (P ++ node_bytes end_kind [] [] 0)
  nodes-missing q = ap (λ (z : plan.PrepCacheItem). nodes_as (item z)) (item-missing ps n path x q) ∙ nodes-multiple n ps path x

  -- so there is room for a head and the places, whether any waits or not
  pub several-least : 20 + length P ≤ length (nodes_as outcome_of)
  several-least =
      by_test (eqb (length (missing ps)) 0)
      (λ b. let l = ap length (nodes-served (eqb-true _ _ b)) ∙ length-append (node_bytes all_served_kind [] [] (length ps)) P in
      let k = length-node all_served_kind [] [] (length ps) in omega arith)
      (λ b.
      let l = ap length (nodes-missing (eqb-false _ _ b)) ∙ length-append (node_bytes several_kind [] [] (length ps)) (P ++ node_bytes end_kind [] [] 0) in
      let j = length-append P (node_bytes end_kind [] [] 0) in
      let k = length-node several_kind [] [] (length ps) in
      let i = length-node end_kind [] [] 0 in
      omega arith)

  module _ (d d₁ d₂ : Bytes) (to e : ℕ) (r : to + length (nodes_as outcome_of) ≤ length d) (w : Wrote d (to + 20) P d₁ e) where
    -- a head put before the places
    head-put : (kind : ℕ) → d₂ ≡ put d₁ to (node_bytes kind [] [] (length ps)) → Wrote d to (node_bytes kind [] [] (length ps) ++ P) d₂ e
    head-put kind u =
        let H : Bytes = node_bytes kind [] [] (length ps) in
        let l = length-node kind [] [] (length ps) in
        let b = several-least in
        let j = length-append H P in
        let f = w.ends in
        record {
          ends = omega arith;
          is = u ∙ ap (λ (z : Bytes). put z to H) w.is ∙ put_front d H P to (to + 20) (omega arith) (omega arith);
        }

    -- none waits
    pub served-wrote : length (missing ps) ≡ 0 → d₂ ≡ put d₁ to (node_bytes all_served_kind [] [] (length ps)) → Wrote d to (nodes_as outcome_of) d₂ e
    served-wrote q u = wrote_as d d₂ _ _ to e (nodes-served q) (head-put all_served_kind u)

    -- some wait: with their end
    module _ (q : length (missing ps) ≡ 0 → ⊥) (u : d₂ ≡ put d₁ to (node_bytes several_kind [] [] (length ps))) where
      abbrev H : Bytes
      H = node_bytes several_kind [] [] (length ps)

      assoc : nodes_as outcome_of ≡ (H ++ P) ++ node_bytes end_kind [] [] 0
      assoc = nodes-missing q ∙ sym (append_assoc H P (node_bytes end_kind [] [] 0))

      pub end-room : e + length (node_bytes end_kind [] [] 0) ≤ length d₂
      end-room =
          let l = ap length assoc ∙ length-append (H ++ P) (node_bytes end_kind [] [] 0) in
          let h = head-put several_kind u in
          let k = wrote-long d d₂ (H ++ P) to e (omega arith) h in
          let f = h.ends in
          omega arith

      pub missing-wrote : (d₃ : Bytes) (f : ℕ) → Wrote d₂ e (node_bytes end_kind [] [] 0) d₃ f → Wrote d to (nodes_as outcome_of) d₃ f
      missing-wrote d₃ f y = wrote-both d d₂ d₃ _ (H ++ P) (node_bytes end_kind [] [] 0) to e f assoc r (head-put several_kind u) y

      -- the keys that wait are read from the places
      pub missing-held : (d₃ : Bytes) (f k : ℕ) → Wrote d₂ e (node_bytes end_kind [] [] 0) d₃ f → x < 2 ^ 64 → All FitsPlace ps → length ps ≡ k
          → (keys_at d₃ (Nodes (to + 20)) k ≡ keys_of (missing ps)) × KeysIn d₃ (Nodes (to + 20)) k
      unfolding keys_at KeysIn
      missing-held d₃ f k y h fits l =
          let b = missing-wrote d₃ f y in
          let z : drop (to + 20) d₃ ≡ (P ++ node_bytes end_kind [] [] 0) ++ drop (to + length (H ++ (P ++ node_bytes end_kind [] [] 0))) d =
          ap (drop (to + 20)) (b.is ∙ ap (put d to) (nodes-missing q))
          ∙ drop-put d H (P ++ node_bytes end_kind [] [] 0) to 20 (length-node several_kind [] [] (length ps)) (omega arith) in
          rw (← l) (keys-held d₃ x h ps (to + 20) _ fits (z ∙ append_assoc P (node_bytes end_kind [] [] 0) _))

module _ (g : Settings) (rows : ℕ → Row) (t e x : ℕ) (s : Bytes) (v : Several) (i : SeveralIn s v) (a d d₁ d₂ : Bytes) (to e₁ m : ℕ) (n : Statistics)
    (r : to + length (nodes_as (item (several_item (setup_now g) rows t e s v x))) ≤ length d)
    (w : Wrote d (to + 20) (enc_all enc_node (place_nodes x (places_now g rows t e s v))) d₁ e₁) (k : m ≡ length (missing (places_now g rows t e s v))) where
  abbrev ps : List Place
  ps = places_now g rows t e s v

  -- the head that was put has as many places as keys
  head-is : (kind : ℕ) → d₂ ≡ put d₁ to (node_bytes kind [] [] v.keys) → d₂ ≡ put d₁ to (node_bytes kind [] [] (length ps))
  head-is kind u = u ∙ ap (λ (z : ℕ). put d₁ to (node_bytes kind [] [] z)) (sym (keys-count g rows t e s v i))

  -- none waits
  pub prepares-served : (c : Command) → m ≡ 0 → d₂ ≡ put d₁ to (node_bytes all_served_kind [] [] v.keys)
      → Prepares g rows t e s a d to d₂ c (item (several_item (setup_now g) rows t e s v x))
      (record { result = Item (Cached (Values v)); places = to + 20; to = e₁; counts = n })
  prepares-served c q u =
      let z = several-served (setup_now g) rows t e s a c v i x m k q in
      record {
        tells = record { is = ap item z.is; inside = z.inside };
        wrote = served-wrote x ps (several_name v.json) (path_in s v) d d₁ d₂ to e₁ r w (sym k ∙ q) (head-is 2 u);
        holds = tt;
      }

  -- some wait
  module _ (q : m ≡ 0 → ⊥) (u : d₂ ≡ put d₁ to (node_bytes several_kind [] [] v.keys)) where
    pub prepares-room : e₁ + length (node_bytes end_kind [] [] 0) ≤ length d₂
    prepares-room = end-room x ps (several_name v.json) (path_in s v) d d₁ d₂ to e₁ r w (λ z. q (k ∙ z)) (head-is 4 u)

    pub prepares-missing : (c : Command) (d₃ : Bytes) (f : ℕ) → (f ≡ e₁ + length (node_bytes end_kind [] [] 0)) × (d₃ ≡ put d₂ e₁ (node_bytes end_kind [] [] 0))
        → x < 2 ^ 64 → All FitsPlace ps
        → Prepares g rows t e s a d to d₃ c (item (several_item (setup_now g) rows t e s v x))
        (record { result = Item (NotCached (Multiple v m x)); places = to + 20; to = f; counts = n })
    prepares-missing c d₃ f y h fits =
        let z = several-missing (setup_now g) rows t e s a c v i x m k q in
        let b : Wrote d₂ e₁ (node_bytes end_kind [] [] 0) d₃ f = record { ends = y.0; is = y.1 } in
        record {
          tells = record { is = ap item z.is; inside = z.inside };
          wrote = missing-wrote x ps (several_name v.json) (path_in s v) d d₁ d₂ to e₁ r w (λ z. q (k ∙ z)) (head-is 4 u) d₃ f b;
          holds =
              missing-held x ps (several_name v.json) (path_in s v) d d₁ d₂ to e₁ r w (λ z. q (k ∙ z)) (head-is 4 u) d₃ f v.keys b h fits
              (keys-count g rows t e s v i);
        }

-- ---- one key

-- the key that is looked up
pub whole_is : (s : Bytes) (h : Head) (key : Range) → (whole_key (command_of s h) (range_bytes s key)).key ≡ range_bytes s key
unfolding whole_key
whole_is s h key = refl

module _ (g : Settings) (rows : ℕ → Row) (t e x : ℕ) (s : Bytes) (h : Head) (key : Range) where
  -- the key with its command key, and its place
  abbrev W : Wanted
  W = whole_key (command_of s h) (range_bytes s key)

  abbrev Q : Place
  Q = place_on (setup_now g) rows t e W

  pub one-filled : (b : Bytes) → Q ≡ plan.filled b → nodes_as (item (single_item Q x)) ≡ node_bytes served_kind b [] 0
  unfolding single_item
  one-filled b q = rw q (nodes-value b)

  pub one-waiting : (k y : Bytes) → Q ≡ plan.waiting W → k ≡ range_bytes s key → y ≡ key_bytes s (Joined h.args)
      → nodes_as (item (single_item Q x)) ≡ node_bytes missing_kind k y x
  unfolding single_item whole_key
  one-waiting k y q i j = rw (q, i, j) (nodes-single W x ∙ ap (λ (z : Bytes). node_bytes missing_kind (range_bytes s key) z x) (whole-key s h (range_bytes s key)))

  module _ (a d : Bytes) (to : ℕ) (d₁ : Bytes) (e₁ : ℕ) (n : Statistics) where
    pub prepares-hit : (from end : ℕ) → from ≤ end → end ≤ length a → Q ≡ plan.filled (part a from (end - from))
        → (e₁ ≡ to + length (node_bytes served_kind (part a from (end - from)) [] 0)) × (d₁ ≡ put d to (node_bytes served_kind (part a from (end - from)) [] 0))
        → Prepares g rows t e s a d to d₁ (command_of s h) (item (single_item Q x))
        (record { result = Item (Cached (Value (record { start = from; end = end }))); places = to; to = e₁; counts = n })
    prepares-hit from end i j q w =
        let z = single-hit (setup_now g) rows t e s a (command_of s h) key x from end (i, j, q) in
        record { tells = record { is = ap item z.is; inside = z.inside }; wrote = wrote-is d d₁ _ _ to e₁ (one-filled _ q) w; holds = tt }

    pub prepares-miss : (m : ℕ) (k y : Bytes) → RangeIn s key → Q ≡ plan.waiting W → k ≡ range_bytes s key → y ≡ key_bytes s (Joined h.args)
        → (e₁ ≡ to + length (node_bytes missing_kind k y x)) × (d₁ ≡ put d to (node_bytes missing_kind k y x))
        → Prepares g rows t e s a d to d₁ (command_of s h) (item (single_item Q x))
        (record { result = Item (NotCached (Single key x)); places = to; to = e₁; counts = n })
    prepares-miss m k y i q p j w =
        let z = single-miss (setup_now g) rows t e s a (command_of s h) key x m i q in
        record { tells = record { is = ap item z.is; inside = z.inside }; wrote = wrote-is d d₁ _ _ to e₁ (one-waiting k y q p j) w; holds = tt }

-- ---- a reply that is handed on

module _ (g : Settings) (rows : ℕ → Row) (t e : ℕ) (s a d : Bytes) (to : ℕ) (d₁ : Bytes) (c : Command) (e₁ : ℕ) (n : Statistics)
    (w : (e₁ ≡ to + length (node_bytes hand_on_kind [] [] 0)) × (d₁ ≡ put d to (node_bytes hand_on_kind [] [] 0))) where
  pub prepares-ignored : Prepares g rows t e s a d to d₁ c plan.ignored (record { result = Ignored; places = to; to = e₁; counts = n })
  prepares-ignored = record { tells = record { is = refl; inside = tt }; wrote = wrote-is d d₁ _ _ to e₁ nodes-ignored w; holds = tt }

  pub prepares-not-cacheable : Prepares g rows t e s a d to d₁ c (item plan.not_cacheable)
      (record { result = Item NotCacheable; places = to; to = e₁; counts = n })
  prepares-not-cacheable = record { tells = record { is = refl; inside = tt }; wrote = wrote-is d d₁ _ _ to e₁ nodes-not-cacheable w; holds = tt }
