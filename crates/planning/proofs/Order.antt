-- The nodes that planning writes stand in an order that the rules allow. Assumes nothing.
use Rattle.std.specs.Prelude.{◌≡◌, refl, Bool, true, List, [], ◌∷◌, ◌++◌, ℕ, length}
use Rattle.std.proofs.Common.{ap, ◌∙◌, append_assoc}
use Rattle.buffer.specs.Same.{Bytes}
use Rattle.planning.specs.Outcome.{Place, filled, waiting, value, values, single, multiple, cached, not_cached, not_cacheable, CachingResult, item, ignored}
use Rattle.planning.specs.Plan.{Node, end_of_several, value_nodes, place_nodes, served_nodes, missing_nodes, nodes_of, nodes}
use Rattle.planning.specs.Rules.{values_then, end_then, places_then, ordered}

-- values that are all served are as many as said
values-then : (f : List Node → Bool) (vs : List Bytes) (ns : List Node) → values_then f (length vs) (value_nodes vs ++ ns) ≡ f ns
unfolding values_then value_nodes
values-then f [] ns = refl
values-then f (v ∷ vs) ns = values-then f vs ns

-- places are, with the end of several behind them
places_then_lem : (f : List Node → Bool) (x : ℕ) (ps : List Place) (ns : List Node) → places_then f (length ps) (place_nodes x ps ++ (end_of_several ∷ ns)) ≡ f ns
unfolding places_then place_nodes end_then
places_then_lem f x [] ns = refl
places_then_lem f x (filled v ∷ ps) ns = places_then_lem f x ps ns
places_then_lem f x (waiting w ∷ ps) ns = places_then_lem f x ps ns

-- as many commands as outcomes
pub in_order : (rs : List CachingResult) → ordered (length rs) (nodes rs) ≡ true
unfolding ordered nodes nodes_of served_nodes missing_nodes
in_order [] = refl
in_order (ignored ∷ rs) = in_order rs
in_order (item not_cacheable ∷ rs) = in_order rs
in_order (item (cached (value v)) ∷ rs) = in_order rs
in_order (item (cached (values vs)) ∷ rs) = values-then (ordered (length rs)) vs (nodes rs) ∙ in_order rs
in_order (item (not_cached (single w x)) ∷ rs) = in_order rs
in_order (item (not_cached (multiple n ps path x)) ∷ rs) =
    ap (places_then (ordered (length rs)) (length ps)) (append_assoc (place_nodes x ps) (end_of_several ∷ []) (nodes rs))
    ∙ places_then_lem (ordered (length rs)) x ps (nodes rs) ∙ in_order rs
