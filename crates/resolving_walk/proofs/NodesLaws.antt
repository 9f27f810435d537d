-- Commands and nodes are one: what is read off a good plan's nodes is written as those nodes again, and keeps the limits. Assumes nothing.
use Rattle.std.specs.Prelude.{◌≡◌, refl, Bool, true, false, List, [], ◌∷◌, ℕ, zero, suc, length, drop}
use Rattle.std.proofs.Common.{sym, ap, ap₂, ◌∙◌, arith}
use Rattle.buffer.specs.Same.{Bytes}
use Rattle.format.specs.Lists.{All}
use Rattle.resp3.specs.Value.{count, Valid, encode, IsValue}
use Rattle.resp3.specs.Decode.{decode}
use Rattle.resp3.proofs.Law.{decode-law}
use Rattle.book.specs.Calls.{Wanted, missing_until}
use Rattle.planning.specs.Plan.{Node, hand_on, served_value, all_served, missing_key, several, waiting_place, end_of_several}
use Rattle.planning.specs.Plan as nodes
use Rattle.planning.specs.Rules.{GoodNode, values_then, end_then, places_then, ordered, GoodPlan}
use Rattle.resolving.specs.Plan.{Command, handed_on, single}
use Rattle.resolving.specs.Made.{Every, PlacesHave, CommandHas, CommandsHave}
use Rattle.resolving.specs.Kept.{Sent, Asked, Within}
use Rattle.resolving_walk.specs.Commands.{value_at, place_at, values_at, places_at, commands_of, plan_read}
use Rattle.resolving_walk.specs.Laws.{value_nodes, place_nodes, command_nodes}

-- ---- commands as nodes

-- ---- what is read is what was written

-- a served value's bytes
written : (v : Bytes) → IsValue v → v ≡ encode (decode v)
written v h = h.means.is ∙ ap encode (sym (decode-law v h.v h.means))

-- it is a valid value
valid : (v : Bytes) → IsValue v → Valid (decode v)
valid v h = rw (decode-law v h.v h.means) h.means.ok

-- a missing key is within the limits
pub asked : (w : Wanted) (x : ℕ) → GoodNode (missing_key w x) → Asked (missing_until x w)
unfolding GoodNode
asked w x g = record { key = g.0.key; command = g.0.command; expiry = g.1 }

-- n served values that f accepts what follows of
record Values-read (f : List Node → Bool) (n : ℕ) (ns : List Node) : Type 0 where
  is : ns ≡ value_nodes (values_at n ns) (drop n ns)
  many : count (values_at n ns) ≡ n
  all : Every Valid (values_at n ns)
  good : All GoodNode (drop n ns)
  next : f (drop n ns) ≡ true

-- no order that is refused
no : {A : Type 0} → false ≡ true → A
no h = absurd (let z : ◌≡◌ {A = ℕ} 0 1 = cc in omega arith)

values-read : (f : List Node → Bool) (n : ℕ) (ns : List Node) → All GoodNode ns → values_then f n ns ≡ true → Values-read f n ns
unfolding values_then value_nodes values_at value_at GoodNode
values-read f zero ns g h = record { is = refl; many = refl; all = tt; good = g; next = h }
values-read f (suc n) [] g h = no h
values-read f (suc n) (hand_on ∷ ns) g h = no h
values-read f (suc n) (served_value v ∷ ns) g h =
    let r = values-read f n ns g.1 h in
    record {
      is = ap₂ (λ (b : Bytes) (l : List Node). served_value b ∷ l) (written v g.0) r.is;
      many = ap suc r.many;
      all = (valid v g.0, r.all);
      good = r.good;
      next = r.next;
    }
values-read f (suc n) (all_served k ∷ ns) g h = no h
values-read f (suc n) (missing_key w x ∷ ns) g h = no h
values-read f (suc n) (several k ∷ ns) g h = no h
values-read f (suc n) (waiting_place w x ∷ ns) g h = no h
values-read f (suc n) (end_of_several ∷ ns) g h = no h

-- n places and the end of several
record Places-read (f : List Node → Bool) (n : ℕ) (ns : List Node) : Type 0 where
  is : ns ≡ place_nodes (places_at n ns) (drop (suc n) ns)
  many : length (places_at n ns) ≡ n
  all : PlacesHave Sent Asked Valid (places_at n ns)
  good : All GoodNode (drop (suc n) ns)
  next : f (drop (suc n) ns) ≡ true

places-read : (f : List Node → Bool) (n : ℕ) (ns : List Node) → All GoodNode ns → places_then f n ns ≡ true → Places-read f n ns
unfolding places_then end_then place_nodes places_at place_at GoodNode
places-read f zero [] g h = no h
places-read f zero (hand_on ∷ ns) g h = no h
places-read f zero (served_value v ∷ ns) g h = no h
places-read f zero (all_served k ∷ ns) g h = no h
places-read f zero (missing_key w x ∷ ns) g h = no h
places-read f zero (several k ∷ ns) g h = no h
places-read f zero (waiting_place w x ∷ ns) g h = no h
places-read f zero (end_of_several ∷ ns) g h = record { is = refl; many = refl; all = tt; good = g.1; next = h }
places-read f (suc n) [] g h = no h
places-read f (suc n) (hand_on ∷ ns) g h = no h
places-read f (suc n) (served_value v ∷ ns) g h =
    let r = places-read f n ns g.1 h in
    record {
      is = ap₂ (λ (b : Bytes) (l : List Node). served_value b ∷ l) (written v g.0) r.is;
      many = ap suc r.many;
      all = (valid v g.0, r.all);
      good = r.good;
      next = r.next;
    }
places-read f (suc n) (all_served k ∷ ns) g h = no h
places-read f (suc n) (missing_key w x ∷ ns) g h = no h
places-read f (suc n) (several k ∷ ns) g h = no h
places-read f (suc n) (waiting_place w x ∷ ns) g h =
    let r = places-read f n ns g.1 h in
    record {
      is = ap (λ (l : List Node). waiting_place w x ∷ l) r.is;
      many = ap suc r.many;
      all = (asked w x g.0, r.all);
      good = r.good;
      next = r.next;
    }
places-read f (suc n) (end_of_several ∷ ns) g h = no h

-- k commands
pub record Commands-read (k : ℕ) (ns : List Node) : Type 0 where
  pub is : ns ≡ command_nodes (commands_of k ns)
  pub many : length (commands_of k ns) ≡ k
  pub all : CommandsHave Sent Asked Valid (commands_of k ns)

-- one of a single node more
one_more : (c : Command) (x : Node) (k : ℕ) (ns : List Node) → ((cs : List Command) → command_nodes (c ∷ cs) ≡ x ∷ command_nodes cs)
    → CommandHas Sent Asked Valid c
    → commands_of (suc k) (x ∷ ns) ≡ c ∷ commands_of k ns → Commands-read k ns → Commands-read (suc k) (x ∷ ns)
one_more c x k ns f h e r =
    record {
      is = ap (λ (l : List Node). x ∷ l) r.is ∙ sym (ap command_nodes e ∙ f (commands_of k ns));
      many = ap length e ∙ ap suc r.many;
      all = rw e (h, r.all);
    }

-- what is read off good nodes in order
pub commands-read : (k : ℕ) (ns : List Node) → All GoodNode ns → ordered k ns ≡ true → Commands-read k ns
unfolding ordered commands_of command_nodes GoodNode
commands-read zero [] g h = record { is = refl; many = refl; all = tt }
commands-read zero (x ∷ ns) g h = no h
commands-read (suc k) [] g h = no h
commands-read (suc k) (hand_on ∷ ns) g h = one_more handed_on hand_on k ns (λ cs. refl) tt refl (commands-read k ns g.1 h)
commands-read (suc k) (served_value v ∷ ns) g h =
    let r = commands-read k ns g.1 h in
    record { is = ap₂ (λ (b : Bytes) (l : List Node). served_value b ∷ l) (written v g.0) r.is; many = ap suc r.many; all = (valid v g.0, r.all) }
commands-read (suc k) (all_served n ∷ ns) g h =
    let a = values-read (λ l. ordered k l) n ns g.1 h in
    let r = commands-read k (drop n ns) a.good a.next in
    record {
      is = ap₂ (λ (i : ℕ) (l : List Node). all_served i ∷ l) (sym a.many) (a.is ∙ ap (value_nodes (values_at n ns)) r.is);
      many = ap suc r.many;
      all = (a.all, r.all);
    }
commands-read (suc k) (missing_key w x ∷ ns) g h =
    one_more (single (missing_until x w)) (missing_key w x) k ns (λ cs. refl) (asked w x g.0) refl (commands-read k ns g.1 h)
commands-read (suc k) (several n ∷ ns) g h =
    let a = places-read (λ l. ordered k l) n ns g.1 h in
    let r = commands-read k (drop (suc n) ns) a.good a.next in
    record {
      is = ap₂ (λ (i : ℕ) (l : List Node). several i ∷ l) (sym a.many) (a.is ∙ ap (place_nodes (places_at n ns)) r.is);
      many = ap suc r.many;
      all = (a.all, r.all);
    }
commands-read (suc k) (waiting_place w x ∷ ns) g h = no h
commands-read (suc k) (end_of_several ∷ ns) g h = no h

-- of a good plan
pub plan-read : (p : nodes.Plan) → GoodPlan p → Commands-read p.commands p.nodes
plan-read p g = commands-read p.commands p.nodes g.each g.order

-- its missing keys and served values are within the limits
pub plan-within : (p : nodes.Plan) → GoodPlan p → Within (plan_read p)
unfolding plan_read
plan-within p g = (plan-read p g).all
