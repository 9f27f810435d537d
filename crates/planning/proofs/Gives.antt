-- A plan holds the missing keys of the planning that wrote it, each with its command key and client expiry (rule P19 of docs/BEHAVIOUR.md). Assumes nothing.
use Rattle.std.specs.Prelude.{◌≡◌, refl, List, [], ◌∷◌, ◌++◌, map, ℕ}
use Rattle.std.proofs.Common.{ap, ◌∙◌}
use Rattle.buffer.specs.Same.{Bytes}
use Rattle.book.specs.Calls.{Missing, missing_until}
use Rattle.planning.specs.Outcome.{Place, filled, waiting, value, values, single, multiple, cached, not_cached, not_cacheable, CachingResult}
use Rattle.planning.specs.Outcome.{item, ignored, missing}
use Rattle.planning.specs.Plan.{Node, hand_on, served_value, all_served, missing_key, several, waiting_place, end_of_several, value_nodes, place_nodes}
use Rattle.planning.specs.Plan.{served_nodes, missing_nodes, nodes_of, nodes}

-- a command's missing keys
unfoldable pub missing_of : CachingResult → List Missing
missing_of ignored = []
missing_of (item not_cacheable) = []
missing_of (item (cached a)) = []
missing_of (item (not_cached (single w x))) = missing_until x w ∷ []
missing_of (item (not_cached (multiple n ps path x))) = map (missing_until x) (missing ps)

-- a planning's
unfoldable pub all_missing : List CachingResult → List Missing
all_missing [] = []
all_missing (r ∷ rs) = missing_of r ++ all_missing rs

-- those that a plan's nodes hold
unfoldable pub given : List Node → List Missing
given [] = []
given (hand_on ∷ ns) = given ns
given (served_value v ∷ ns) = given ns
given (all_served n ∷ ns) = given ns
given (missing_key w x ∷ ns) = missing_until x w ∷ given ns
given (several n ∷ ns) = given ns
given (waiting_place w x ∷ ns) = missing_until x w ∷ given ns
given (end_of_several ∷ ns) = given ns

-- values that are served hold none
values-given : (vs : List Bytes) (ns : List Node) → given (value_nodes vs ++ ns) ≡ given ns
unfolding given value_nodes
values-given [] ns = refl
values-given (v ∷ vs) ns = values-given vs ns

-- places hold those that wait
places-given : (x : ℕ) (ps : List Place) (ns : List Node)
    → given ((place_nodes x ps ++ (end_of_several ∷ [])) ++ ns) ≡ map (missing_until x) (missing ps) ++ given ns
unfolding given place_nodes missing
places-given x [] ns = refl
places-given x (filled v ∷ ps) ns = places-given x ps ns
places-given x (waiting w ∷ ps) ns = ap (λ (l : List Missing). missing_until x w ∷ l) (places-given x ps ns)

-- a plan's nodes hold the missing keys of the outcomes that it was written for, in their order
pub gives-missing : (rs : List CachingResult) → given (nodes rs) ≡ all_missing rs
unfolding given nodes nodes_of served_nodes missing_nodes all_missing missing_of
gives-missing [] = refl
gives-missing (ignored ∷ rs) = gives-missing rs
gives-missing (item not_cacheable ∷ rs) = gives-missing rs
gives-missing (item (cached (value v)) ∷ rs) = gives-missing rs
gives-missing (item (cached (values vs)) ∷ rs) = values-given vs (nodes rs) ∙ gives-missing rs
gives-missing (item (not_cached (single w x)) ∷ rs) = ap (λ (l : List Missing). missing_until x w ∷ l) (gives-missing rs)
gives-missing (item (not_cached (multiple n ps path x)) ∷ rs) =
    places-given x ps (nodes rs) ∙ ap (λ (l : List Missing). map (missing_until x) (missing ps) ++ l) (gives-missing rs)
