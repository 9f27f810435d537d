-- The plan: what resolving needs of each command's outcome, as a flat row of nodes, and its bytes by docs/LAYOUT.md. Assumes nothing: these are
-- definitions.
-- Letters: k key, w a key with its command key, n name or number, x client expiry, v value.
use Rattle.std.specs.Prelude.{ℕ, Bool, cond, List, [], ◌∷◌, ◌++◌, length}
use Rattle.buffer.specs.Same.{Bytes}
use Rattle.buffer.specs.Field.{le32, le64}
use Rattle.format.specs.Lists.{enc_all}
use Rattle.resp3.specs.Value.{null_bytes}
use Rattle.book.specs.Calls.{Wanted}
use Rattle.planning.specs.Outcome.{Place, filled, waiting, Served, value, values, CacheableCommand, single, multiple, cached, not_cached}
use Rattle.planning.specs.Outcome.{not_cacheable, CachingResult, item, ignored}

-- ---- The nodes, of seven kinds

pub data Node : Type 0 where
  -- a reply is handed on: the command was ignored or is not cacheable
  hand_on : Node
  -- a served value, as a command's answer or as one of its places
  served_value : Bytes → Node
  -- all places served: that many served values follow
  all_served : ℕ → Node
  -- one missing key; client expiry
  missing_key : Wanted → ℕ → Node
  -- several keys: that many places follow, then the end of several
  several : ℕ → Node
  -- a place that waits for a key; client expiry
  waiting_place : Wanted → ℕ → Node
  end_of_several : Node

-- values that are all served: the plan holds their bytes (rule P19)
unfoldable pub value_nodes : List Bytes → List Node
value_nodes [] = []
value_nodes (v ∷ vs) = served_value v ∷ value_nodes vs

-- places, of which each one that waits has the command's client expiry
unfoldable pub place_nodes : ℕ → List Place → List Node
place_nodes x [] = []
place_nodes x (filled v ∷ ps) = served_value v ∷ place_nodes x ps
place_nodes x (waiting w ∷ ps) = waiting_place w x ∷ place_nodes x ps

-- what is served
unfoldable pub served_nodes : Served → List Node
served_nodes (value v) = served_value v ∷ []
served_nodes (values vs) = all_served (length vs) ∷ value_nodes vs

-- what is missing
unfoldable pub missing_nodes : CacheableCommand → List Node
missing_nodes (single w x) = missing_key w x ∷ []
missing_nodes (multiple n ps path x) = several (length ps) ∷ (place_nodes x ps ++ (end_of_several ∷ []))

-- one command
unfoldable pub nodes_of : CachingResult → List Node
nodes_of ignored = hand_on ∷ []
nodes_of (item not_cacheable) = hand_on ∷ []
nodes_of (item (cached a)) = served_nodes a
nodes_of (item (not_cached cc)) = missing_nodes cc

-- all commands
unfoldable pub nodes : List CachingResult → List Node
nodes [] = []
nodes (r ∷ rs) = nodes_of r ++ nodes rs

-- whether the plan is a transaction's, how many commands it has, and its nodes
pub record Plan : Type 0 where
  pub transaction : Bool
  pub commands : ℕ
  pub nodes : List Node

unfoldable pub plan_of : Bool → List CachingResult → Plan
plan_of b rs = record { transaction = b; commands = length rs; nodes = nodes rs }

-- ---- Their bytes

-- a plan's head has so many bytes
abbrev pub plan_head_size : ℕ
plan_head_size = 8

-- of which these, from `null_start` up to `null_end`, are `_`; the number of commands follows
abbrev pub null_start : ℕ
null_start = 1

abbrev pub null_end : ℕ
null_end = 4

-- a node has so many before its parts
abbrev pub node_head_size : ℕ
node_head_size = 20

-- the kinds of nodes
abbrev pub hand_on_kind : ℕ
hand_on_kind = 0

abbrev pub served_kind : ℕ
served_kind = 1

abbrev pub all_served_kind : ℕ
all_served_kind = 2

abbrev pub missing_kind : ℕ
missing_kind = 3

abbrev pub several_kind : ℕ
several_kind = 4

abbrev pub waiting_kind : ℕ
waiting_kind = 5

abbrev pub end_kind : ℕ
end_kind = 6

-- kind, and the two lengths, and the number; then the two parts
unfoldable pub node_bytes : ℕ → Bytes → Bytes → ℕ → Bytes
node_bytes kind a b number = le32 kind ++ (le32 (length a) ++ (le32 (length b) ++ (le64 number ++ (a ++ b))))

unfoldable pub enc_node : Node → Bytes
enc_node hand_on = node_bytes hand_on_kind [] [] 0
enc_node (served_value v) = node_bytes served_kind v [] 0
enc_node (all_served n) = node_bytes all_served_kind [] [] n
enc_node (missing_key w x) = node_bytes missing_kind w.key w.command x
enc_node (several n) = node_bytes several_kind [] [] n
enc_node (waiting_place w x) = node_bytes waiting_kind w.key w.command x
enc_node end_of_several = node_bytes end_kind [] [] 0

-- flags (bit 0 transaction), the bytes of `_` for places that stay unfilled, the number of commands, the nodes
unfoldable pub enc_plan : Plan → Bytes
enc_plan p = cond p.transaction 1 0 ∷ (null_bytes ++ (le32 p.commands ++ enc_all enc_node p.nodes))

-- one name that opens every definition of this page, for cases that compute
unfoldable pub plan-defs : Unit {0}
unfolding value_nodes place_nodes served_nodes missing_nodes nodes_of nodes plan_of node_bytes enc_node enc_plan
plan-defs = tt
