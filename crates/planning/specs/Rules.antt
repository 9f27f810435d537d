-- When bytes are a plan: the rules of docs/LAYOUT.md, one by one. Cause 10 is that they are none. Assumes nothing: these are definitions.
use Rattle.std.specs.Prelude.{◌≡◌, Bool, true, false, List, [], ◌∷◌, ℕ, zero, suc, ◌^◌, ◌≤◌, ◌<◌, length}
use Rattle.buffer.specs.Same.{Bytes}
use Rattle.config.specs.Limits.{max_commands, max_arguments, max_key, max_command_key}
use Rattle.format.specs.Lists.{All}
use Rattle.resp3.specs.Value.{IsValue}
use Rattle.book.specs.Calls.{Wanted}
use Rattle.planning.specs.Plan.{Node, hand_on, served_value, all_served, missing_key, several, waiting_place, end_of_several, Plan, enc_plan}

-- ---- each node by itself

-- a key has at most 65,535 bytes, a command key at most 16 MiB
pub record GoodWanted (w : Wanted) : Type 0 where
  pub key : length w.key ≤ max_key
  pub command : length w.command ≤ max_command_key

-- a served value is exactly one RESP3 value of at most 16 MiB; there are at most 1,024 places; an expiry has 64 bits
unfoldable pub GoodNode : Node → Type 0
GoodNode hand_on = Unit {0}
GoodNode (served_value v) = IsValue v
GoodNode (all_served n) = n ≤ max_arguments
GoodNode (missing_key w x) = GoodWanted w × (x < 2 ^ 64)
GoodNode (several n) = n ≤ max_arguments
GoodNode (waiting_place w x) = GoodWanted w × (x < 2 ^ 64)
GoodNode end_of_several = Unit {0}

-- ---- their order

-- n served values, and then what f wants
unfoldable pub values_then : (List Node → Bool) → ℕ → List Node → Bool
values_then f zero ns = f ns
values_then f (suc n) [] = false
values_then f (suc n) (hand_on ∷ ns) = false
values_then f (suc n) (served_value v ∷ ns) = values_then f n ns
values_then f (suc n) (all_served k ∷ ns) = false
values_then f (suc n) (missing_key w x ∷ ns) = false
values_then f (suc n) (several k ∷ ns) = false
values_then f (suc n) (waiting_place w x ∷ ns) = false
values_then f (suc n) (end_of_several ∷ ns) = false

-- the end of several, and then what f wants
unfoldable pub end_then : (List Node → Bool) → List Node → Bool
end_then f [] = false
end_then f (hand_on ∷ ns) = false
end_then f (served_value v ∷ ns) = false
end_then f (all_served k ∷ ns) = false
end_then f (missing_key w x ∷ ns) = false
end_then f (several k ∷ ns) = false
end_then f (waiting_place w x ∷ ns) = false
end_then f (end_of_several ∷ ns) = f ns

-- n places, each served or waiting, the end of several, and then what f wants
unfoldable pub places_then : (List Node → Bool) → ℕ → List Node → Bool
places_then f zero ns = end_then f ns
places_then f (suc n) [] = false
places_then f (suc n) (hand_on ∷ ns) = false
places_then f (suc n) (served_value v ∷ ns) = places_then f n ns
places_then f (suc n) (all_served k ∷ ns) = false
places_then f (suc n) (missing_key w x ∷ ns) = false
places_then f (suc n) (several k ∷ ns) = false
places_then f (suc n) (waiting_place w x ∷ ns) = places_then f n ns
places_then f (suc n) (end_of_several ∷ ns) = false

-- exactly so many commands; places that wait, and the end of several, only inside several
unfoldable pub ordered : ℕ → List Node → Bool
ordered zero [] = true
ordered zero (n ∷ ns) = false
ordered (suc k) [] = false
ordered (suc k) (hand_on ∷ ns) = ordered k ns
ordered (suc k) (served_value v ∷ ns) = ordered k ns
ordered (suc k) (all_served n ∷ ns) = values_then (λ l. ordered k l) n ns
ordered (suc k) (missing_key w x ∷ ns) = ordered k ns
ordered (suc k) (several n ∷ ns) = places_then (λ l. ordered k l) n ns
ordered (suc k) (waiting_place w x ∷ ns) = false
ordered (suc k) (end_of_several ∷ ns) = false

-- ---- the whole plan

-- at most 1,024 commands
pub record GoodPlan (p : Plan) : Type 0 where
  pub count : p.commands ≤ max_commands
  pub each : All GoodNode p.nodes
  pub order : ordered p.commands p.nodes ≡ true

-- bytes that are a plan's: flags, `_`, count and whole nodes to exactly the end, with kinds, parts and numbers as `enc_plan` writes them
pub record IsPlan (bytes : Bytes) : Type 0 where
  pub plan : Plan
  pub good : GoodPlan plan
  pub is : bytes ≡ enc_plan plan

-- one name that opens the order of nodes, for cases that compute
unfoldable pub order-defs : Unit {0}
unfolding values_then end_then places_then ordered
order-defs = tt
