-- The plan's head, a node's head, and how the bytes of plans and nodes are put together from them; lengths of nodes and command keys. Assumes nothing.
use Rattle.std.specs.Prelude.{◌≡◌, refl, Bool, true, false, cond, ◌∷◌, ◌++◌, ℕ, zero, suc, ◌+◌, ◌*◌, ◌≤◌, length}
use Rattle.std.proofs.Common.{sym, ap, ◌∙◌, append_assoc, arith, add-one, length-append}
use Rattle.buffer.specs.Same.{Bytes}
use Rattle.buffer.specs.Field.{le, le32, le64}
use Rattle.format.specs.Lists.{enc_all}
use Rattle.resp3.specs.Value.{encode, null_bytes}
use Rattle.cursor.specs.At.{range_bytes, RangeIn, next_at, ArgsIn}
use Rattle.cursor.specs.declared.Range.{Range}
use Rattle.cursor.specs.Steps.{in-more, in_start}
use Rattle.command_key.specs.declared.CommandKey.{CommandKey}
use Rattle.command_key.specs.declared.CommandKey.TheVariants.{Part, Joined, Named}
use Rattle.command_key.specs.Key.{name_bytes, key_bytes, KeyIn}
use Rattle.command_key.specs.Keys.{named-joined, range_length}
use Rattle.command_key.specs.Joined.{joined_at, joined-none, joined_length}
use Rattle.planning.specs.Plan.{Plan, node_bytes, enc_node, enc_plan, plan_head_size, node_head_size}

-- flags (bit 0 transaction), `_` CR LF, the number of commands
unfoldable pub plan_head : Bool → ℕ → Bytes
plan_head b n = cond b 1 0 ∷ (null_bytes ++ le32 n)

-- kind, the two lengths, the number
unfoldable pub node_head : ℕ → ℕ → ℕ → ℕ → Bytes
node_head kind a b number = le32 kind ++ (le32 a ++ (le32 b ++ le64 number))

-- a plan is its head and its nodes
pub plan-pieces : (p : Plan) → enc_plan p ≡ plan_head p.transaction p.commands ++ enc_all enc_node p.nodes
unfolding enc_plan plan_head
plan-pieces p = ap (λ (z : Bytes). cond p.transaction 1 0 ∷ z) (sym (append_assoc null_bytes (le32 p.commands) (enc_all enc_node p.nodes)))

-- a node is its head and its parts
pub node-pieces : (kind : ℕ) (a b : Bytes) (number : ℕ) → node_bytes kind a b number ≡ node_head kind (length a) (length b) number ++ (a ++ b)
unfolding node_bytes node_head
node-pieces kind a b number =
    let A : Bytes = le32 kind in
    let B : Bytes = le32 (length a) in
    let C : Bytes = le32 (length b) in
    let D : Bytes = le64 number in
    sym (append_assoc A (B ++ (C ++ D)) (a ++ b) ∙ ap (λ (z : Bytes). A ++ z)
    (append_assoc B (C ++ D) (a ++ b) ∙ ap (λ (z : Bytes). B ++ z) (append_assoc C D (a ++ b))))

-- ---- lengths

pub length-node-head : (kind a b number : ℕ) → length (node_head kind a b number) ≡ node_head_size
unfolding node_head le
length-node-head kind a b number = refl

pub length-plan-head : (b : Bool) (n : ℕ) → length (plan_head b n) ≡ plan_head_size
unfolding plan_head le encode
length-plan-head b n = refl

-- a node takes 20 bytes and its parts
pub length-node : (kind : ℕ) (a b : Bytes) (number : ℕ) → length (node_bytes kind a b number) ≡ node_head_size + length a + length b
length-node kind a b number =
    let h = length-node-head kind (length a) (length b) number in
    let i = length-append (node_head kind (length a) (length b) number) (a ++ b) in
    let j = length-append a b in
    ap length (node-pieces kind a b number) ∙ omega arith

-- ---- a command key is no longer than what it is gathered from, or name, key and path

-- a range's text is no longer than what it is a range of
pub range-short : (s : Bytes) (g : Range) (t : Bytes) → t ≡ range_bytes s g → RangeIn s g → length t ≤ length s
range-short s g t q i = let l = ap length q ∙ range_length s g i in let b = i.1 in omega arith

-- arguments joined
joined-bound : (s : Bytes) (m at : ℕ) → ArgsIn s m at → at + length (joined_at s m at) ≤ length s
joined-bound s zero at w = let z = ap length (joined-none s zero at refl) in let i = in_start s zero at w in omega arith
joined-bound s (suc m) at w =
    let q : suc m ≡ m + 1 = sym (add-one m) in
    let v = in-more s (suc m) m at q w in
    let i = joined-bound s m (next_at s at) v.1 in
    let l = joined_length s (suc m) m at q w in
    omega arith

-- `JSON.GET` is the longer name
name-bound : (json : Bool) → length (name_bytes json) ≤ 8
unfolding name_bytes
name-bound true = omega arith
name-bound false = omega arith

-- a bound for all of them
pub key-bound : (s : Bytes) (command : CommandKey) → KeyIn s command → length (key_bytes s command) ≤ 8 + 2 * length s
unfolding key_bytes KeyIn
key-bound s (Part g) w = let l = range_length s g w in let a = w.1 in omega arith
key-bound s (Joined k) w = let l = joined-bound s k.left k.at w in omega arith
key-bound s (Named json key path) w =
    let n = name-bound json in
    let k = range_length s key w.0 in
    let p = range_length s path w.1 in
    let a = w.0.1 in
    let b = w.1.1 in
    let e = ap length (named-joined (name_bytes json) (range_bytes s key) (range_bytes s path)) in
    let i = length-append (name_bytes json) (range_bytes s key ++ range_bytes s path) in
    let j = length-append (range_bytes s key) (range_bytes s path) in
    omega arith
