-- Several keys looked up one after the other, each one's node written as it is found. A lookup changes no other key's place (`place-steady`), so the nodes are
-- those of the places on the rows before. Assumes nothing.
-- Letters: g settings, t clock, e epoch, x client expiry, s the record's bytes, v several keys, a the arena's bytes, d the plan's, y and z how far it is, q a
-- place, w and u keys with their command keys.
use Rattle.std.specs.Prelude.{◌≡◌, refl, ℕ, ◌+◌, ◌-◌, ◌^◌, ◌≤◌, ◌<◌}
use Rattle.std.proofs.Math.Path.{ap}
use Rattle.std.proofs.Common.{◌∙◌, subst}
use mathlib.Core.List.{List, [], ◌∷◌, ◌++◌}
use native.Mathlib.Omega.{arith}
use Rattle.std.proofs.Math.ListN.{length}
use Rattle.buffer.specs.Same.{Bytes}
use Rattle.buffer.specs.Part.{part, put}
use Rattle.buffer.specs.Copied.{Copied, copied-start, copied_next, copied-room, copied-done, copied-ends}
use Rattle.config.specs.Limits.{max_arena, max_bytes}
use Rattle.config.specs.declared.Settings.{Settings}
use Rattle.format.specs.Lists.{enc_all, All}
use Rattle.cursor.specs.At.{range_bytes, RangeIn}
use Rattle.cursor.specs.declared.Args.{Args}
use Rattle.cursor.specs.declared.Range.{Range}
use Rattle.command_key.specs.declared.CommandKey.TheVariants.{Named}
use Rattle.cmd.specs.Laws.{Wrote}
use Rattle.book.specs.Book.{Row}
use Rattle.book.specs.Calls.{Wanted}
use Rattle.planning.specs.Outcome.{Place, filled, waiting, missing, part_key}
use Rattle.planning.specs.Plan.{place_nodes, node_bytes, enc_node, served_kind, waiting_kind}
use Rattle.statistics.specs.declared.Statistics.{Statistics}
use Rattle.plan_write.specs.Pieces.{range-short, key-bound}
use Rattle.plan_write.specs.Wrote.{wrote-is}
use Rattle.planning_ask.specs.Asked.{wanted_in, SeveralIn, KeyStep}
use Rattle.planning_ask.specs.Keys.{part-key}
use Rattle.planning_ask.specs.declared.KeyAt.{KeyAt}
use Rattle.planning_ask.specs.declared.Several.{Several}
use Rattle.shard_lookup.specs.declared.Looked.TheVariants.{Hit, Miss}
use Rattle.sharded_lru.specs.Laws.{lent_same}
use Rattle.sharded_lru.specs.Lent.{setup_now, Lent, Arena}
use Rattle.planning_outcome.specs.Result.{place_on}
use Rattle.planning_outcome.specs.Places.{told-hit, told-miss}
use Rattle.planning_look_up.specs.Looks.{Looks, looks-arena, Turn, turn-start, turn-next, turn_end}
use Rattle.planning_look_up.specs.Finds.{Finds, place-steady}
use Rattle.planning_look_up.specs.declared.Found.{Found}
use Rattle.planning_places.specs.Pieces.{want_at, places_now}
use Rattle.planning_places.specs.Steps.{places_from, places-none, places-more}
use Rattle.planning_places.specs.Measure.{part_in}
use Rattle.planning_places.specs.Source.{FitsPlace}
use Rattle.planning_nodes.specs.declared.Written.{Written}

-- ---- one place's node

unfoldable pub place_node : ℕ → Place → Bytes
place_node x (filled b) = node_bytes served_kind b [] 0
place_node x (waiting w) = node_bytes waiting_kind w.key w.command x

pub node-filled : (x : ℕ) (q : Place) (b : Bytes) → q ≡ filled b → place_node x q ≡ node_bytes served_kind b [] 0
unfolding place_node
node-filled x q b e = rw e

pub node-waiting : (x : ℕ) (q : Place) (w : Wanted) (k c : Bytes) → q ≡ waiting w → k ≡ w.key → w.command ≡ c → place_node x q ≡ node_bytes waiting_kind k c x
unfolding place_node
node-waiting x q w k c e i j = rw (e, i, j)

-- the first, and the others
nodes-more : (x : ℕ) (q : Place) (ps : List Place) → enc_all enc_node (place_nodes x (q ∷ ps)) ≡ place_node x q ++ enc_all enc_node (place_nodes x ps)
unfolding place_node place_nodes enc_node
nodes-more x (filled b) ps = refl
nodes-more x (waiting w) ps = refl

missing-more : (q : Place) (ps : List Place) → length (missing (q ∷ ps)) ≡ length (missing (q ∷ [])) + length (missing ps)
unfolding missing
missing-more (filled b) ps = omega arith
missing-more (waiting w) ps = omega arith

-- ---- one key looked up, and its node written

pub record Placed (g : Settings) (t e x : ℕ) (w : Wanted) (a d : Bytes) (y : Written) (a₁ d₁ : Bytes) (z : Written) : Type 0 where
  pub looks : Looks g t e (w ∷ []) a y.counts a₁ z.counts
  pub wrote : (rows : ℕ → Row) → Lent g a rows → Wrote d y.to (place_node x (place_on (setup_now g) rows t e w)) d₁ z.to
  pub number : (rows : ℕ → Row) → Lent g a rows → z.missing ≡ y.missing + length (missing (place_on (setup_now g) rows t e w ∷ []))
  pub fits : (rows : ℕ → Row) → Lent g a rows → FitsPlace (place_on (setup_now g) rows t e w)

-- what a lookup that is served finds
pub record Served (g : Settings) (t e : ℕ) (w : Wanted) (a a₁ : Bytes) (from end : ℕ) : Type 0 where
  pub order : from ≤ end
  pub inside : end ≤ length a₁
  pub short : length (part a₁ from (end - from)) ≤ max_arena
  pub is : (rows : ℕ → Row) → Lent g a rows → place_on (setup_now g) rows t e w ≡ filled (part a₁ from (end - from))

pub found-hit : (g : Settings) (t e : ℕ) (w : Wanted) (a : Bytes) (n : Statistics) (a₁ : Bytes) (f : Found) → Finds g t e w a n a₁ f → Arena g a
    → (from end : ℕ)
    → f.looked ≡ Hit from end → Served g t e w a a₁ from end
found-hit g t e w a n a₁ f h v from end q =
    let k = told-hit a₁ w (place_on (setup_now g) v.rows t e w) f.looked from end q (h.told v.rows v.lent) in
    let i = k.1 in
    let j = k.3 in
    let l = (looks-arena g t e (w ∷ []) a a₁ n f.counts h.looks v).lent.largest in
    record {
      order = k.0;
      inside = i;
      short = omega arith;
      is = λ rows o. (told-hit a₁ w (place_on (setup_now g) rows t e w) f.looked from end q (h.told rows o)).2;
    }

pub found-miss : (g : Settings) (t e : ℕ) (w : Wanted) (a : Bytes) (n : Statistics) (a₁ : Bytes) (f : Found) → Finds g t e w a n a₁ f → (m : ℕ)
    → f.looked ≡ Miss m
    → (rows : ℕ → Row) → Lent g a rows → place_on (setup_now g) rows t e w ≡ waiting w
found-miss g t e w a n a₁ f h m q rows o = told-miss a₁ w (place_on (setup_now g) rows t e w) f.looked m q (h.told rows o)

module _ (g : Settings) (t e x : ℕ) (w : Wanted) (a d : Bytes) (y : Written) (a₁ d₁ : Bytes) (f : Found) (h : Finds g t e w a y.counts a₁ f) (to : ℕ) where
  -- it is served
  pub placed-hit : (from end : ℕ) → Served g t e w a a₁ from end
      → (to ≡ y.to + length (node_bytes served_kind (part a₁ from (end - from)) [] 0))
      × (d₁ ≡ put d y.to (node_bytes served_kind (part a₁ from (end - from)) [] 0))
      → Placed g t e x w a d y a₁ d₁ (record { to = to; missing = y.missing; counts = f.counts })
  unfolding missing FitsPlace
  placed-hit from end k v =
      let l = k.short in
      record {
        looks = h.looks;
        wrote = λ rows o. wrote-is d d₁ _ _ y.to to (node-filled x _ _ (k.is rows o)) v;
        number = λ rows o. rw (k.is rows o) (omega arith);
        fits = λ rows o. rw (k.is rows o) (omega arith);
      }

  -- it waits
  pub placed-miss : (n : ℕ) (k c : Bytes) → f.looked ≡ Miss n → k ≡ w.key → w.command ≡ c → (length w.key < 2 ^ 32) × (length w.command < 2 ^ 32)
      → (to ≡ y.to + length (node_bytes waiting_kind k c x)) × (d₁ ≡ put d y.to (node_bytes waiting_kind k c x))
      → Placed g t e x w a d y a₁ d₁ (record { to = to; missing = y.missing + 1; counts = f.counts })
  unfolding missing FitsPlace
  placed-miss n k c q i j l v =
      record {
        looks = h.looks;
        wrote = λ rows o. wrote-is d d₁ _ _ y.to to (node-waiting x _ w k c (found-miss g t e w a y.counts a₁ f h n q rows o) i j) v;
        number = λ rows o. rw (found-miss g t e w a y.counts a₁ f h n q rows o) (omega arith);
        fits = λ rows o. rw (found-miss g t e w a y.counts a₁ f h n q rows o) l;
      }

-- the key that is looked up
pub want-key : (s : Bytes) (v : Several) (key : Range) → (want_at s v key).key ≡ range_bytes s key
unfolding part_key
want-key s v key = refl

-- a key of a record and its command key are short
pub want-fits : (s : Bytes) (v : Several) (key : Range) → SeveralIn s v → RangeIn s key → length s ≤ max_bytes
    → (length (want_at s v key).key < 2 ^ 32) × (length (want_at s v key).command < 2 ^ 32)
unfolding part_key
want-fits s v key w i h =
    let a = range-short s key (range_bytes s key) refl i in
    let b = key-bound s (Named v.json key v.path) (part_in s v key w i h) in
    let c = ap length (part-key s v key w) in
    (omega arith, omega arith)

-- ---- key after key

module _ (g : Settings) (t e x : ℕ) (s : Bytes) (v : Several) where
  -- the nodes of the keys that are left
  abbrev nodes_from : (ℕ → Row) → Args → ℕ → Bytes
  nodes_from rows k n = enc_all enc_node (place_nodes x (places_from g rows t e s v k n))

  -- all are done
  pub record Done (a₀ d₀ : Bytes) (y₀ : Written) (a d : Bytes) (y : Written) : Type 0 where
    pub looks : Looks g t e (wanted_in s v) a₀ y₀.counts a y.counts
    pub wrote : (rows : ℕ → Row) → Lent g a₀ rows → Wrote d₀ y₀.to (enc_all enc_node (place_nodes x (places_now g rows t e s v))) d y.to
    pub number : (rows : ℕ → Row) → Lent g a₀ rows → y.missing ≡ y₀.missing + length (missing (places_now g rows t e s v))
    pub fits : (rows : ℕ → Row) → Lent g a₀ rows → All FitsPlace (places_now g rows t e s v)
    pub few : y.missing ≤ y₀.missing + v.keys

  module _ (a₀ d₀ : Bytes) (y₀ : Written) where
    pub record Writing (k : Args) (n : ℕ) (a d : Bytes) (y : Written) : Type 0 where
      pub turn : Turn g t e s v a₀ y₀.counts k n a y.counts
      pub long : length a ≡ length a₀
      pub few : y.missing + n ≤ y₀.missing + v.keys
      pub steady : (rows₀ rows : ℕ → Row) → Lent g a₀ rows₀ → Lent g a rows → (u : Wanted) → place_on (setup_now g) rows t e u ≡ place_on (setup_now g) rows₀ t e u
      pub copied : (rows : ℕ → Row) → Lent g a₀ rows → Copied d₀ y₀.to (nodes_from rows v.args v.keys) d y.to (nodes_from rows k n)
      pub number : (rows : ℕ → Row) → Lent g a₀ rows
          → y.missing + length (missing (places_from g rows t e s v k n)) ≡ y₀.missing + length (missing (places_from g rows t e s v v.args v.keys))
      pub fits : (rows : ℕ → Row) → Lent g a₀ rows → All FitsPlace (places_from g rows t e s v k n)
          → All FitsPlace (places_from g rows t e s v v.args v.keys)

    pub writing_start : SeveralIn s v → Arena g a₀
        → ((rows : ℕ → Row) → Lent g a₀ rows → y₀.to + length (enc_all enc_node (place_nodes x (places_now g rows t e s v))) ≤ length d₀)
        → Writing v.args v.keys a₀ d₀ y₀
    writing_start i w r =
        record {
          turn = turn-start g t e s v a₀ y₀.counts i w;
          long = refl;
          few = omega arith;
          steady = λ rows₀ rows o₀ o u. ap (λ (z : ℕ → Row). place_on (setup_now g) z t e u) (lent_same o o₀);
          copied = λ rows o. copied-start d₀ _ y₀.to (r rows o);
          number = λ rows o. refl;
          fits = λ rows o f. f;
        }

    module _ (w : Arena g a₀) (k : Args) (n j : ℕ) (a d : Bytes) (y : Written) (r : KeyAt) (q : n ≡ j + 1) (i : KeyStep s k r) (h : Writing k n a d y) where
      abbrev here : Wanted
      here = want_at s v r.key

      -- the first place, on the rows before
      first_more : (rows : ℕ → Row) → nodes_from rows k n ≡ place_node x (place_on (setup_now g) rows t e here) ++ nodes_from rows r.rest j
      first_more rows =
          ap (λ (l : List Place). enc_all enc_node (place_nodes x l)) (places-more g rows t e s v k r n j q i)
          ∙ nodes-more x (place_on (setup_now g) rows t e here) _

      -- room for its node, by the rows as they are
      pub writing-room : (rows : ℕ → Row) → Lent g a rows → y.to + length (place_node x (place_on (setup_now g) rows t e here)) ≤ length d
      writing-room rows o =
          let z = ap (λ (p : Place). length (place_node x p)) (h.steady w.rows rows w.lent o here) in
          let b = copied-room d₀ _ d (place_node x (place_on (setup_now g) w.rows t e here)) _ (nodes_from w.rows r.rest j) y₀.to y.to
          (first_more w.rows) (h.copied w.rows w.lent) in
          omega arith

      -- one key further
      pub writing-next : (a₁ d₁ : Bytes) (z : Written) → Placed g t e x here a d y a₁ d₁ z → length a₁ ≡ length a → Writing r.rest j a₁ d₁ z
      writing-next a₁ d₁ z p l =
          let A = h.turn.arena in
          let c = h.few in
          let m = p.number A.rows A.lent in
          let f = one_place (place_on (setup_now g) A.rows t e here) in
          record {
            turn = turn-next g t e s v a₀ y₀.counts k n j a a₁ y.counts z.counts r q i p.looks h.turn;
            long = l ∙ h.long;
            few = omega arith;
            steady = λ rows₀ rows o₀ o u.
                place-steady g t e here a a₁ y.counts z.counts p.looks A.rows rows A.lent o u ∙ h.steady rows₀ A.rows o₀ A.lent u;
            copied = λ rows o.
                let b = p.wrote A.rows A.lent in
                let u = ap (place_node x) (h.steady rows A.rows o A.lent here) in
                copied_next d₀ _ d d₁ (place_node x (place_on (setup_now g) rows t e here)) (nodes_from rows k n) (nodes_from rows r.rest j) y₀.to
                y.to z.to (first_more rows)
                (b.ends ∙ ap (λ (bs : Bytes). y.to + length bs) u) (b.is ∙ ap (put d y.to) u) (h.copied rows o);
            number = λ rows o.
                let b = ap (λ (l : List Place). length (missing l)) (places-more g rows t e s v k r n j q i) in
                let c = missing-more (place_on (setup_now g) rows t e here) (places_from g rows t e s v r.rest j) in
                let u = ap (λ (l : Place). length (missing (l ∷ []))) (h.steady rows A.rows o A.lent here) in
                let y' = h.number rows o in
                omega arith;
            fits = λ rows o b.
                h.fits rows o
                (rw (places-more g rows t e s v k r n j q i) (subst FitsPlace (h.steady rows A.rows o A.lent here) (p.fits A.rows A.lent), b));
          }
        where
          one_place : (q : Place) → length (missing (q ∷ [])) ≤ 1
          one_place (filled b) = unfold missing in omega arith
          one_place (waiting u) = unfold missing in omega arith

    -- none is left
    pub writing-end : (k : Args) (n : ℕ) (a d : Bytes) (y : Written) → n ≡ 0 → Writing k n a d y → Done a₀ d₀ y₀ a d y
    unfolding missing place_nodes
    writing-end k n a d y q h =
        let c = h.few in
        record {
          looks = turn_end g t e s v a₀ y₀.counts k n a y.counts q h.turn;
          wrote = λ rows o.
              let z : nodes_from rows k n ≡ [] = rw (places-none g rows t e s v k n q) in
              record { ends = copied-ends d₀ _ d _ y₀.to y.to z (h.copied rows o); is = copied-done d₀ _ d _ y₀.to y.to z (h.copied rows o) };
          number = λ rows o.
              let z = ap (λ (l : List Place). length (missing l)) (places-none g rows t e s v k n q) in
              let m = h.number rows o in
              omega arith;
          fits = λ rows o. h.fits rows o (rw (places-none g rows t e s v k n q) tt);
          few = omega arith;
        }
