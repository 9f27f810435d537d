-- Which bytes are a plan, as a test: docs/LAYOUT.md, "Bytes are a plan ..". The reader takes any bytes; they are a plan exactly if what was
-- read keeps the rules and is written as these bytes again. Assumes nothing: these are definitions.
use Rattle.std.specs.Prelude.{ℕ, zero, suc, ◌+◌, ◌^◌, Bool, true, cond, List, [], ◌∷◌, map, length, get_or, drop, eqb, leb, ltb}
use Rattle.std.proofs.Math.Option.{Option, none, some}
use Rattle.buffer.specs.Same.{Bytes, same}
use Rattle.buffer.specs.Field.{read32, read64}
use Rattle.buffer.specs.Part.{part}
use Rattle.config.specs.Limits.{max_commands, max_arguments, max_key, max_command_key}
use Rattle.resp3.specs.Ends.{is_value}
use Rattle.arena.specs.Decode.{every}
use Rattle.book.specs.Calls.{Wanted}
use Rattle.planning.specs.Plan.{Node, hand_on, served_value, all_served, missing_key, several, waiting_place, end_of_several, Plan, enc_plan}
use Rattle.planning.specs.Plan.{hand_on_kind, served_kind, all_served_kind, missing_kind, several_kind, waiting_kind, plan_head_size, node_head_size}
use Rattle.planning.specs.Rules.{ordered}

-- ---- reading

-- the node of a kind, with its parts and its number; an unknown kind gives some node, which is not written so
unfoldable pub node_from : ℕ → Bytes → Bytes → ℕ → Node
node_from k a b x =
    cond (eqb k hand_on_kind) hand_on
    (cond (eqb k served_kind) (served_value a)
    (cond (eqb k all_served_kind) (all_served x)
    (cond (eqb k missing_kind) (missing_key (record { key = a; command = b }) x)
    (cond (eqb k several_kind) (several x)
    (cond (eqb k waiting_kind) (waiting_place (record { key = a; command = b }) x) end_of_several)))))

-- "node: kind u32 | length of a u32 | length of b u32 | number u64 | a | b"
unfoldable pub read_node : Bytes → Node
read_node s = node_from (read32 s 0) (part s node_head_size (read32 s 4)) (part s (node_head_size + read32 s 4) (read32 s 8)) (read64 s 12)

-- nodes to the end, at most n
unfoldable pub read_nodes : ℕ → Bytes → List Node
read_nodes zero s = []
read_nodes (suc n) s = let rest = read_nodes n (drop (node_head_size + read32 s 4 + read32 s 8) s) in cond (eqb (length s) 0) [] (read_node s ∷ rest)

-- "plan: flags u8 | `_` CR LF | count of commands u32 | nodes to the end"
unfoldable pub read_plan : Bytes → Plan
read_plan s = record { transaction = eqb (get_or s 0 0) 1; commands = read32 s 4; nodes = read_nodes (length s) (drop plan_head_size s) }

-- ---- the rules of planning's Rules.antt as tests

unfoldable pub good_wanted : Wanted → ℕ → Bool
good_wanted w x = every (leb (length w.key) max_key ∷ leb (length w.command) max_command_key ∷ ltb x (2 ^ 64) ∷ [])

unfoldable pub good_node : Node → Bool
good_node hand_on = true
good_node (served_value v) = is_value v
good_node (all_served n) = leb n max_arguments
good_node (missing_key w x) = good_wanted w x
good_node (several n) = leb n max_arguments
good_node (waiting_place w x) = good_wanted w x
good_node end_of_several = true

unfoldable pub good_plan : Plan → Bool
good_plan p = every (leb p.commands max_commands ∷ every (map good_node p.nodes) ∷ ordered p.commands p.nodes ∷ [])

-- ---- the plan

-- what was read is good, and is what these bytes say
unfoldable pub is_plan : Bytes → Bool
is_plan s = every (good_plan (read_plan s) ∷ same (enc_plan (read_plan s)) s ∷ [])

-- the plan of bytes; nothing where they are none, which is cause 10
unfoldable pub decode_plan : Bytes → Option Plan
decode_plan s = cond (is_plan s) (some (read_plan s)) none

-- one name that opens every definition of this page, for cases that compute
unfoldable pub decode-defs : Unit {0}
unfolding node_from read_node read_nodes read_plan good_wanted good_node good_plan is_plan decode_plan
decode-defs = tt
