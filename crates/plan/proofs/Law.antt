-- `decode_plan` is right: it finds the plan that was written, and nothing where bytes break a rule. So no two good plans are written alike, and cause 10 is
-- exactly that the bytes are no plan. Assumes nothing.
use Rattle.std.specs.Prelude.{◌≡◌, refl, ◌↔◌, Bool, true, false, cond, List, [], ◌∷◌, ◌++◌, map, ℕ, zero, suc, ◌+◌, ◌≤◌, length, drop, eqb}
use Rattle.std.proofs.Common.{sym, ap, ◌∙◌, subst, arith, length-drop, leb-true, le-leb, ltb-true, lt-ltb, ne_eqb}
use Rattle.std.proofs.Math.Option.{Option, none, some}
use Rattle.buffer.specs.Cases.{by_test}
use Rattle.buffer.specs.Same.{Bytes}
use Rattle.buffer.specs.SameLaws.{same_refl, same-eq}
use Rattle.buffer.specs.Field.{le32, read32, read64}
use Rattle.buffer.specs.FieldLaws.{length-le, read_past, read_here}
use Rattle.buffer.specs.Lists.{drop_past}
use Rattle.config.specs.Limits.{max_commands}
use Rattle.format.specs.Lists.{enc_all, All}
use Rattle.resp3.specs.Value.{encode, null_bytes}
use Rattle.resp3.proofs.Law.{value-law}
use Rattle.arena.proofs.Tests.{Trues, every-yes, yes-every}
use Rattle.planning.specs.Plan.{Node, hand_on, served_value, all_served, missing_key, several, waiting_place, end_of_several, enc_node, Plan, enc_plan, plan_head_size}
use Rattle.planning.specs.Plan.{node_head_size}
use Rattle.planning.specs.Rules.{GoodNode, GoodPlan, IsPlan}
use Rattle.plan.specs.Head.{head_at}
use Rattle.plan.specs.Node.{kind_of, first_of, second_of, number_of, node-defs}
use Rattle.plan.specs.There.{head_of, node_law}
use Rattle.plan.specs.Decode.{node_from, read_node, read_nodes, read_plan, good_wanted, good_node, good_plan, is_plan, decode_plan}

-- ---- the tests say what planning's rules say

node-yes : (nd : Node) → good_node nd ≡ true → GoodNode nd
unfolding good_node good_wanted GoodNode
node-yes hand_on e = tt
node-yes (served_value v) e = (value-law v).0 e
node-yes (all_served n) e = leb-true n _ e
node-yes (missing_key w x) e = let t = every-yes _ e in (record { key = leb-true _ _ t.0; command = leb-true _ _ t.1.0 }, ltb-true x _ t.1.1.0)
node-yes (several n) e = leb-true n _ e
node-yes (waiting_place w x) e = let t = every-yes _ e in (record { key = leb-true _ _ t.0; command = leb-true _ _ t.1.0 }, ltb-true x _ t.1.1.0)
node-yes end_of_several e = tt

pub yes-node : (nd : Node) → GoodNode nd → good_node nd ≡ true
unfolding good_node good_wanted GoodNode
yes-node hand_on g = refl
yes-node (served_value v) g = (value-law v).1 g
yes-node (all_served n) g = le-leb n _ g
yes-node (missing_key w x) g = yes-every _ (le-leb _ _ g.0.key, (le-leb _ _ g.0.command, (lt-ltb x _ g.1, tt)))
yes-node (several n) g = le-leb n _ g
yes-node (waiting_place w x) g = yes-every _ (le-leb _ _ g.0.key, (le-leb _ _ g.0.command, (lt-ltb x _ g.1, tt)))
yes-node end_of_several g = refl

nodes-yes : (ns : List Node) → Trues (map good_node ns) → All GoodNode ns
nodes-yes [] t = tt
nodes-yes (nd ∷ ns) t = (node-yes nd t.0, nodes-yes ns t.1)

yes-nodes : (ns : List Node) → All GoodNode ns → Trues (map good_node ns)
yes-nodes [] g = tt
yes-nodes (nd ∷ ns) g = (yes-node nd g.0, yes-nodes ns g.1)

-- a plan is good exactly if the test says so
pub good-law : (p : Plan) → (good_plan p ≡ true) ↔ GoodPlan p
unfolding good_plan
good-law p = (
  (λ e. let t = every-yes _ e in record { count = leb-true _ _ t.0; each = nodes-yes p.nodes (every-yes _ t.1.0); order = t.1.1.0 }),
  (λ g. yes-every _ (le-leb _ _ g.count, (yes-every _ (yes-nodes p.nodes g.each), (g.order, tt)))),
)

-- ---- what was written is read

-- a node is made of its kind, its parts and its number
from_parts : (nd : Node) → node_from (kind_of nd) (first_of nd) (second_of nd) (number_of nd) ≡ nd
unfolding node_from node-defs
from_parts hand_on = refl
from_parts (served_value v) = refl
from_parts (all_served n) = refl
from_parts (missing_key w x) = refl
from_parts (several n) = refl
from_parts (waiting_place w x) = refl
from_parts end_of_several = refl

-- a node before what follows: it is read, and what follows is found
record NodeRead (nd : Node) (r t : Bytes) : Type 0 where
  some_bytes : eqb (length t) 0 ≡ false
  shorter : length r + node_head_size ≤ length t
  is : read_node t ≡ nd
  rest : drop (node_head_size + read32 t 4 + read32 t 8) t ≡ r

read_one : (nd : Node) (r : Bytes) → GoodNode nd → NodeRead nd r (enc_node nd ++ r)
unfolding head_at head_of read_node
read_one nd r g =
    let t : Bytes = enc_node nd ++ r in
    let h = node_law t 0 nd r (record { good = g; is = refl }) in
    let k : read32 t 0 ≡ kind_of nd = h.kind in
    let x : read64 t 12 ≡ number_of nd = ap (λ z. z.number) h.head in
    let m : node_head_size + read32 t 4 ≡ node_head_size + length (first_of nd) = ap (λ z. z.second) h.head in
    let e : node_head_size + read32 t 4 + read32 t 8 ≡ node_head_size + length (first_of nd) + length (second_of nd) = h.ends in
    let a : read32 t 4 ≡ length (first_of nd) = omega arith in
    let b : read32 t 8 ≡ length (second_of nd) = omega arith in
    let l : node_head_size + length (first_of nd) + length (second_of nd) ≤ length t = h.long in
    let d : length (drop (node_head_size + length (first_of nd) + length (second_of nd)) t) ≡ length r = ap length h.rest in
    record {
      some_bytes = ne_eqb (length t) 0 (λ z. omega arith);
      shorter = omega (arith, length-drop (node_head_size + length (first_of nd) + length (second_of nd)) t);
      is = rw (k, x, a, b, h.first, h.second) (from_parts nd);
      rest = rw e h.rest;
    }

-- so are nodes one after the other, where the limit is not below their bytes
read_all : (n : ℕ) (ns : List Node) → All GoodNode ns → length (enc_all enc_node ns) ≤ n → read_nodes n (enc_all enc_node ns) ≡ ns
unfolding read_nodes
read_all zero [] g l = refl
read_all zero (nd ∷ ns) g l = let h = read_one nd (enc_all enc_node ns) g.0 in absurd (omega (arith, h.shorter))
read_all (suc n) [] g l = refl
read_all (suc n) (nd ∷ ns) g l =
    let h = read_one nd (enc_all enc_node ns) g.0 in
    let i = read_all n ns g.1 (omega (arith, h.shorter)) in
    rw (h.some_bytes, h.is, h.rest, i)

-- the flags' bit
flag-read : (b : Bool) → eqb (cond b 1 0) 1 ≡ b
flag-read true = refl
flag-read false = refl

-- the count, and what stands behind it
pub record StartRead (c : ℕ) (r t : Bytes) : Type 0 where
  pub count : read32 t 4 ≡ c
  pub behind : drop plan_head_size t ≡ r
  pub longer : length r ≤ length t

pub read-start : (f c : ℕ) (r : Bytes) → c ≤ max_commands → StartRead c r (f ∷ (null_bytes ++ (le32 c ++ r)))
unfolding encode
read-start f c r l =
    let X : Bytes = f ∷ null_bytes in
    let b : drop plan_head_size (X ++ (le32 c ++ r)) ≡ r = drop_past X (le32 c ++ r) 4 4 refl ∙ drop_past (le32 c) r 4 0 (length-le 4 c) in
    record {
      count = read_past 4 X (le32 c ++ r) 4 0 refl ∙ read_here 4 c r (omega arith);
      behind = b;
      longer = omega (arith, length-drop plan_head_size (X ++ (le32 c ++ r)), ap length b);
    }

-- a good plan that was written is read
pub read_back : (p : Plan) → GoodPlan p → read_plan (enc_plan p) ≡ p
unfolding read_plan enc_plan
read_back p g =
    let h = read-start (cond p.transaction 1 0) p.commands (enc_all enc_node p.nodes) g.count in
    rw (flag-read p.transaction, h.count, h.behind, read_all (length (enc_plan p)) p.nodes g.each h.longer)

-- ---- the decoder

-- bytes that the test lets through are those of the plan that was read
is-yes : (s : Bytes) → is_plan s ≡ true → GoodPlan (read_plan s) × (s ≡ enc_plan (read_plan s))
unfolding is_plan
is-yes s e = let t = every-yes _ e in ((good-law (read_plan s)).0 t.0, sym (same-eq _ s t.1.0))

-- a good plan's bytes are let through
yes-is : (p : Plan) → GoodPlan p → is_plan (enc_plan p) ≡ true
unfolding is_plan
yes-is p g = rw (read_back p g) (yes-every _ ((good-law p).1 g, (same_refl (enc_plan p), tt)))

-- the test is that bytes are a plan
pub plan-law : (s : Bytes) → (is_plan s ≡ true) ↔ IsPlan s
plan-law s = (
  (λ e. let t = is-yes s e in record { plan = read_plan s; good = t.0; is = t.1 }),
  (λ w. ap is_plan w.is ∙ yes-is w.plan w.good),
)

-- what the decoder finds is the plan that the bytes were written for
pub decode-law : (s : Bytes) (p : Plan) → (decode_plan s ≡ some p) ↔ (GoodPlan p × (s ≡ enc_plan p))
unfolding decode_plan
decode-law s p = (found, finds)
  where
    found : decode_plan s ≡ some p → GoodPlan p × (s ≡ enc_plan p)
    found e =
        by_test (is_plan s)
        (λ t. let q : read_plan s ≡ p = let e' : some (read_plan s) ≡ some p = rw t at e in cc in
        let w = is-yes s t in (subst GoodPlan q w.0, w.1 ∙ ap enc_plan q))
        (λ t. absurd (let e' : ◌≡◌ {A = Option Plan} none (some p) = rw t at e in let z : ◌≡◌ {A = ℕ} 0 1 = cc in omega arith))

    finds : GoodPlan p × (s ≡ enc_plan p) → decode_plan s ≡ some p
    finds w = rw (w.1, yes-is p w.0, read_back p w.0)

-- cause 10 is exactly that the bytes are no plan
pub decode-none : (s : Bytes) → (decode_plan s ≡ none) ↔ (IsPlan s → ⊥)
unfolding decode_plan
decode-none s = (nothing, no-plan)
  where
    nothing : decode_plan s ≡ none → IsPlan s → ⊥
    nothing e w = let e' : ◌≡◌ {A = Option Plan} (some (read_plan s)) none = rw ((plan-law s).1 w) at e in let z : ◌≡◌ {A = ℕ} 0 1 = cc in omega arith

    no-plan : (IsPlan s → ⊥) → decode_plan s ≡ none
    no-plan f = by_test (is_plan s) (λ t. absurd (f ((plan-law s).0 t))) (λ t. rw t)

-- no two good plans are written alike
pub encode_injective : (p q : Plan) → GoodPlan p → GoodPlan q → enc_plan p ≡ enc_plan q → p ≡ q
encode_injective p q g h e = sym (read_back p g) ∙ ap read_plan e ∙ read_back q h
