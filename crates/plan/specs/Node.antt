-- Kind, parts and number of a plan's node, by docs/LAYOUT.md's table; a good node's fit their widths. Assumes nothing.
use Rattle.std.specs.Prelude.{◌≡◌, refl, [], ℕ, ◌^◌, ◌<◌, length}
use Rattle.std.proofs.Common.{arith}
use Rattle.buffer.specs.Same.{Bytes}
use Rattle.planning.specs.Plan.{Node, hand_on, served_value, all_served, missing_key, several, waiting_place, end_of_several, node_bytes, enc_node}
use Rattle.planning.specs.Plan.{hand_on_kind, served_kind, all_served_kind, missing_kind, several_kind, waiting_kind, end_kind}
use Rattle.planning.specs.Rules.{GoodNode}

-- ---- kind, parts and number of a node

unfoldable pub kind_of : Node → ℕ
kind_of hand_on = hand_on_kind
kind_of (served_value v) = served_kind
kind_of (all_served n) = all_served_kind
kind_of (missing_key w x) = missing_kind
kind_of (several n) = several_kind
kind_of (waiting_place w x) = waiting_kind
kind_of end_of_several = end_kind

unfoldable pub first_of : Node → Bytes
first_of hand_on = []
first_of (served_value v) = v
first_of (all_served n) = []
first_of (missing_key w x) = w.key
first_of (several n) = []
first_of (waiting_place w x) = w.key
first_of end_of_several = []

unfoldable pub second_of : Node → Bytes
second_of hand_on = []
second_of (served_value v) = []
second_of (all_served n) = []
second_of (missing_key w x) = w.command
second_of (several n) = []
second_of (waiting_place w x) = w.command
second_of end_of_several = []

unfoldable pub number_of : Node → ℕ
number_of hand_on = 0
number_of (served_value v) = 0
number_of (all_served n) = n
number_of (missing_key w x) = x
number_of (several n) = n
number_of (waiting_place w x) = x
number_of end_of_several = 0

-- one name that opens these, for proofs by the kind of node
unfoldable pub node-defs : Unit {0}
unfolding kind_of first_of second_of number_of
node-defs = tt

-- they are what is written
pub node-is : (nd : Node) → enc_node nd ≡ node_bytes (kind_of nd) (first_of nd) (second_of nd) (number_of nd)
unfolding node-defs enc_node
node-is hand_on = refl
node-is (served_value v) = refl
node-is (all_served n) = refl
node-is (missing_key w x) = refl
node-is (several n) = refl
node-is (waiting_place w x) = refl
node-is end_of_several = refl

-- ---- a good node's fields fit their widths

pub record FitsNode (k : ℕ) (a b : Bytes) (x : ℕ) : Type 0 where
  pub kind : k < 2 ^ 32
  pub first : length a < 2 ^ 32
  pub second : length b < 2 ^ 32
  pub number : x < 2 ^ 64

pub good-fits : (nd : Node) → GoodNode nd → FitsNode (kind_of nd) (first_of nd) (second_of nd) (number_of nd)
unfolding node-defs GoodNode
good-fits hand_on g = record { kind = omega arith; first = omega arith; second = omega arith; number = omega arith }
good-fits (served_value v) g = let l = g.small in record { kind = omega arith; first = omega arith; second = omega arith; number = omega arith }
good-fits (all_served n) g = record { kind = omega arith; first = omega arith; second = omega arith; number = omega arith }
good-fits (missing_key w x) g =
    let l = g.0.key in let m = g.0.command in record { kind = omega arith; first = omega arith; second = omega arith; number = g.1 }
good-fits (several n) g = record { kind = omega arith; first = omega arith; second = omega arith; number = omega arith }
good-fits (waiting_place w x) g =
    let l = g.0.key in let m = g.0.command in record { kind = omega arith; first = omega arith; second = omega arith; number = g.1 }
good-fits end_of_several g = record { kind = omega arith; first = omega arith; second = omega arith; number = omega arith }
