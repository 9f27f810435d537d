-- The places of a plan: one for each lookup of its commands, in their order, with the value that its answer is or without one. Assumes nothing.
use Rattle.std.specs.Prelude.{◌≡◌, take, drop}
use Rattle.std.proofs.Math.Path.{refl, ap, ap₂}
use Rattle.std.proofs.Common.{sym, ◌∙◌}
use Prim.Native.Nat.{ℕ, suc}
use native.Mathlib.Omega.{arith}
use mathlib.Core.List.{List, [], ◌∷◌, ◌++◌, map, map-append}
use Rattle.std.proofs.Math.ListN.{length}
use Rattle.buffer.specs.Same.{Bytes}
use Rattle.config.specs.declared.Settings.{Settings}
use Rattle.call_record.specs.Record as records
use Rattle.book.specs.Book as book
use Rattle.book.specs.Book.{Setup, Book, Answer, on, answer_to}
use Rattle.book.specs.Calls.{Wanted, lookups, ons}
use Rattle.book.specs.Lookups.{dry}
use Rattle.planning.specs.Ask.{Ask, nothing, uncacheable, one_key, several_keys, ask}
use Rattle.planning.specs.Outcome.{Place, filled, waiting, item, whole_key, part_keys, wants, wanted, place_by, place, places, missing, served_values}
use Rattle.planning.specs.Outcome.{single_item, multiple_item, outcome, outcomes}
use Rattle.planning.specs.Plan as nodes
use Rattle.planning.specs.Plan.{Node, end_of_several, value_nodes, place_nodes, served_nodes, missing_nodes, nodes_of}
use Rattle.demand.specs.Words.{Got, got, missed, places_in, lookups_in}

-- ---- what an answer is shown as

unfoldable pub got_by : Answer → Got
got_by (book.hit v) = got v
got_by book.miss = missed
got_by book.stored = missed
got_by book.no_space = missed
got_by book.invalidated = missed
got_by (book.number n) = missed

-- ---- the places of a plan

-- what a place shows
unfoldable pub got_of : Place → Got
got_of (filled v) = got v
got_of (waiting w) = missed

module _ (x : ℕ) (ns : List Node) where
  -- places of which some wait
  some-wait : (ps : List Place) → places_in ((place_nodes x ps ++ (end_of_several ∷ [])) ++ ns) ≡ map got_of ps ++ places_in ns
  unfolding places_in place_nodes got_of
  some-wait [] = refl
  some-wait (filled v ∷ ps) = ap (λ (z : List Got). got v ∷ z) (some-wait ps)
  some-wait (waiting w ∷ ps) = ap (λ (z : List Got). missed ∷ z) (some-wait ps)

  -- places that are all filled
  none-waits : (ps : List Place) → missing ps ≡ [] → places_in (value_nodes (served_values ps) ++ ns) ≡ map got_of ps ++ places_in ns
  unfolding places_in value_nodes missing served_values got_of
  none-waits [] q = refl
  none-waits (filled v ∷ ps) q = ap (λ (z : List Got). got v ∷ z) (none-waits ps q)
  none-waits (waiting w ∷ ps) q = absurd (let z : suc (length (missing ps)) ≡ 0 = ap length q in omega arith)

  -- the place of one key, and those of several
  one_place : (pl : Place) → places_in (nodes_of (item (single_item pl x)) ++ ns) ≡ got_of pl ∷ places_in ns
  unfolding places_in nodes_of served_nodes missing_nodes single_item got_of
  one_place (filled v) = refl
  one_place (waiting w) = refl

  several-places : (n : Bytes) (path : List Bytes) (ps : List Place) (o : List Wanted) → missing ps ≡ o
      → places_in (nodes_of (item (multiple_item o n ps path x)) ++ ns) ≡ map got_of ps ++ places_in ns
  unfolding places_in nodes_of served_nodes missing_nodes multiple_item
  several-places n path ps [] q = none-waits ps q
  several-places n path ps (w ∷ o) q = some-wait ps

-- one command
pub command-places : (c : records.Command) (a : Ask) (said : List Answer) (ns : List Node)
    → places_in (nodes_of (outcome c a said) ++ ns) ≡ map got_of (places said (wants c a)) ++ places_in ns
unfolding wants outcome places
command-places c nothing said ns = unfold places_in nodes_of in refl
command-places c uncacheable said ns = unfold places_in nodes_of in refl
command-places c (one_key k x) said ns = one_place x ns (place said (whole_key c k))
command-places c (several_keys n ks path x) said ns =
    several-places x ns n path (places said (part_keys n path ks)) (missing (places said (part_keys n path ks))) refl

-- places of some keys and then others, each with its own answers
none-split : (vs ws : List Wanted) → places [] vs ++ places [] ws ≡ places [] (vs ++ ws)
unfolding places
none-split [] ws = refl
none-split (v ∷ vs) ws = ap (λ (z : List Place). place [] v ∷ z) (none-split vs ws)

places-split : (vs ws : List Wanted) (said : List Answer) → places (take (length vs) said) vs ++ places (drop (length vs) said) ws ≡ places said (vs ++ ws)
unfolding places place
places-split [] ws said = refl
places-split (v ∷ vs) ws [] = ap (λ (z : List Place). waiting v ∷ z) (none-split vs ws)
places-split (v ∷ vs) ws (a ∷ said) = ap (λ (z : List Place). place_by a v ∷ z) (places-split vs ws said)

-- all commands
pub plan-places : (g : Settings) (t : ℕ) (cs : List records.Command) (said : List Answer)
    → places_in (nodes.nodes (outcomes (ask g t) cs said)) ≡ map got_of (places said (wanted (ask g t) cs))
unfolding nodes.nodes outcomes wanted
plan-places g t [] said = unfold places_in places in refl
plan-places g t (c ∷ cs) said =
    let ws : List Wanted = wants c (ask g t c) in
    command-places c (ask g t c) (take (length ws) said) (nodes.nodes (outcomes (ask g t) cs (drop (length ws) said)))
    ∙ ap (λ (z : List Got). map got_of (places (take (length ws) said) ws) ++ z) (plan-places g t cs (drop (length ws) said))
    ∙ sym (map-append got_of (places (take (length ws) said) ws) (places (drop (length ws) said) (wanted (ask g t) cs)))
    ∙ ap (map got_of) (places-split ws (wanted (ask g t) cs) said)

-- an answer's place shows the answer
got-place : (a : Answer) (w : Wanted) → got_of (place_by a w) ≡ got_by a
unfolding got_of place_by got_by
got-place (book.hit v) w = refl
got-place book.miss w = refl
got-place book.stored w = refl
got-place book.no_space w = refl
got-place book.invalidated w = refl
got-place (book.number n) w = refl

-- what planning's lookups are answered on a book, and how many they are
module _ (p : Setup) (bk : Book) (t e : ℕ) where
  pub dry-places : (ws : List Wanted) → map got_of (places (dry p bk t e ws) ws) ≡ map got_by (dry p bk t e ws)
  unfolding dry places place
  dry-places [] = refl
  dry-places (w ∷ ws) = ap₂ ◌∷◌ (got-place (answer_to p (on (book.lookup w.key w.command t e)) bk) w) (dry-places ws)

  pub dry-count : (ws : List Wanted) → length (dry p bk t e ws) ≡ lookups_in (ons (lookups t e ws))
  unfolding dry lookups_in ons lookups
  dry-count [] = refl
  dry-count (w ∷ ws) = let h = dry-count ws in omega arith
