-- A plan's nodes read as the commands that resolving is defined on. Assumes nothing: these are the definitions that a reader has to believe.
-- docs/LAYOUT.md says what each kind of node means; nodes that its rules forbid are read as something, and never lent (cause 10).
use Rattle.std.specs.Prelude.{List, [], ◌∷◌, ℕ, zero, suc, drop}
use Rattle.resp3.specs.Value.{Value, Values, null, none, more}
use Rattle.resp3.specs.Decode.{decode}
use Rattle.book.specs.Calls.{missing_until}
use Rattle.planning.specs.Plan.{Node, hand_on, served_value, all_served, missing_key, several, waiting_place, end_of_several}
use Rattle.planning.specs.Plan as nodes
use Rattle.resolving.specs.Plan.{Place, served, waiting, Command, handed_on, cached, cached_array, single, multiple, Plan}

-- "a served value, as a command's answer or as one of its places"
unfoldable pub value_at : Node → Value
value_at hand_on = null
value_at (served_value v) = decode v
value_at (all_served n) = null
value_at (missing_key w x) = null
value_at (several n) = null
value_at (waiting_place w x) = null
value_at end_of_several = null

-- a place: a served value, or one that waits for its key
unfoldable pub place_at : Node → Place
place_at hand_on = served null
place_at (served_value v) = served (decode v)
place_at (all_served n) = served null
place_at (missing_key w x) = served null
place_at (several n) = served null
place_at (waiting_place w x) = waiting (missing_until x w)
place_at end_of_several = served null

-- the first n nodes as values
unfoldable pub values_at : ℕ → List Node → Values
values_at zero ns = none
values_at (suc n) [] = none
values_at (suc n) (x ∷ ns) = more (value_at x) (values_at n ns)

-- the first n nodes as places
unfoldable pub places_at : ℕ → List Node → List Place
places_at zero ns = []
places_at (suc n) [] = []
places_at (suc n) (x ∷ ns) = place_at x ∷ places_at n ns

-- the first k commands: "a node of kind 0, 1 or 3, or one of kind 2 or 4 with those that belong to it"
unfoldable pub commands_of : ℕ → List Node → List Command
commands_of zero ns = []
commands_of (suc k) [] = []
commands_of (suc k) (hand_on ∷ ns) = handed_on ∷ commands_of k ns
commands_of (suc k) (served_value v ∷ ns) = cached (decode v) ∷ commands_of k ns
commands_of (suc k) (all_served n ∷ ns) = cached_array (values_at n ns) ∷ commands_of k (drop n ns)
commands_of (suc k) (missing_key w x ∷ ns) = single (missing_until x w) ∷ commands_of k ns
commands_of (suc k) (several n ∷ ns) = multiple (places_at n ns) ∷ commands_of k (drop (suc n) ns)
commands_of (suc k) (waiting_place w x ∷ ns) = []
commands_of (suc k) (end_of_several ∷ ns) = []

-- the plan that resolving is given
unfoldable pub plan_read : nodes.Plan → Plan
plan_read p = record { transaction = p.transaction; commands = commands_of p.commands p.nodes }
