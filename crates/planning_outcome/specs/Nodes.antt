-- The nodes of an outcome, as bytes, case by case. Assumes nothing.
-- Letters: v a value, w a key with its command key, x client expiry, ps places.
use Rattle.std.specs.Prelude.{◌≡◌, refl, List, [], ◌∷◌, ◌++◌, ℕ, suc, length}
use Rattle.std.proofs.Common.{ap, ap₂, ◌∙◌, append-nil, arith}
use Rattle.buffer.specs.Same.{Bytes}
use Rattle.format.specs.Lists.{enc_all}
use Rattle.book.specs.Calls.{Wanted}
use Rattle.planning.specs.Outcome.{Place, filled, waiting, missing, served_values, value, values, single, multiple, cached, not_cached, not_cacheable}
use Rattle.planning.specs.Outcome.{CachingResult, item, ignored}
use Rattle.planning.specs.Plan.{Node, end_of_several, value_nodes, place_nodes, served_nodes, missing_nodes, nodes_of, node_bytes, enc_node}
use Rattle.planning.specs.Plan.{hand_on_kind, served_kind, all_served_kind, missing_kind, several_kind, end_kind}
use Rattle.planning_outcome.specs.Joined.{enc_all-append}

-- an outcome's nodes
abbrev pub nodes_as : CachingResult → Bytes
nodes_as o = enc_all enc_node (nodes_of o)

-- ---- a reply that is handed on, and one key

pub nodes-ignored : nodes_as ignored ≡ node_bytes hand_on_kind [] [] 0
unfolding nodes_of enc_node
nodes-ignored = append-nil (node_bytes hand_on_kind [] [] 0)

pub nodes-not-cacheable : nodes_as (item not_cacheable) ≡ node_bytes hand_on_kind [] [] 0
unfolding nodes_of enc_node
nodes-not-cacheable = append-nil (node_bytes hand_on_kind [] [] 0)

pub nodes-value : (v : Bytes) → nodes_as (item (cached (value v))) ≡ node_bytes served_kind v [] 0
unfolding nodes_of served_nodes enc_node
nodes-value v = append-nil (node_bytes served_kind v [] 0)

pub nodes-single : (w : Wanted) (x : ℕ) → nodes_as (item (not_cached (single w x))) ≡ node_bytes missing_kind w.key w.command x
unfolding nodes_of missing_nodes enc_node
nodes-single w x = append-nil (node_bytes missing_kind w.key w.command x)

-- ---- several keys

-- places that are all served are values, and as many as the values
all-served : (x : ℕ) (ps : List Place) → length (missing ps) ≡ 0 → (value_nodes (served_values ps) ≡ place_nodes x ps) × (length (served_values ps) ≡ length ps)
unfolding missing served_values value_nodes place_nodes
all-served x [] q = (refl, refl)
all-served x (filled b ∷ ps) q = let i = all-served x ps q in (ap₂ ◌∷◌ refl i.0, ap suc i.1)
all-served x (waiting w ∷ ps) q = absurd (omega arith)

-- none waits: their number and the places, whatever the expiry
pub nodes-values : (x : ℕ) (ps : List Place) → length (missing ps) ≡ 0
    → nodes_as (item (cached (values (served_values ps)))) ≡ node_bytes all_served_kind [] [] (length ps) ++ enc_all enc_node (place_nodes x ps)
unfolding nodes_of served_nodes enc_node
nodes-values x ps q =
    let z = all-served x ps q in ap₂ (λ (n : ℕ) (l : List Node). node_bytes all_served_kind [] [] n ++ enc_all enc_node l) z.1 z.0

-- some wait: their number, the places, and their end
pub nodes-multiple : (n : Bytes) (ps : List Place) (path : List Bytes) (x : ℕ)
    → nodes_as (item (not_cached (multiple n ps path x)))
    ≡ node_bytes several_kind [] [] (length ps) ++ (enc_all enc_node (place_nodes x ps) ++ node_bytes end_kind [] [] 0)
unfolding nodes_of missing_nodes enc_node
nodes-multiple n ps path x =
    ap (λ (z : Bytes). node_bytes several_kind [] [] (length ps) ++ z)
    (enc_all-append enc_node (place_nodes x ps) (end_of_several ∷ [])
    ∙ ap (λ (z : Bytes). enc_all enc_node (place_nodes x ps) ++ z) (append-nil (node_bytes end_kind [] [] 0)))
