-- Nodes by what they stand for (Nodes.antt), and the test of their order with the reader of their commands: nodes are in order exactly if they are some
-- commands', and these are read. Assumes nothing.
use Rattle.std.specs.Prelude.{◌≡◌, ◌↔◌, Bool, true, ℕ, zero, suc, length, drop}
use Rattle.std.proofs.Math.Path.{refl, ap, ap₂}
use Rattle.std.proofs.Common.{sym, ◌∙◌, subst}
use Rattle.std.proofs.lemmas.Bool.{false≢true}
use mathlib.Core.List.{List, [], ◌∷◌}
use Rattle.buffer.specs.Same.{Bytes}
use Rattle.format.specs.Lists.{All}
use Rattle.resp3.specs.Value.{Values, more, count, Means, IsValue}
use Rattle.resp3.specs.Decode as resp
use Rattle.resp3.proofs.Law as values
use Rattle.book.specs.Calls.{missing_until}
use Rattle.planning.specs.Plan as nodes
use Rattle.planning.specs.Plan.{Node, hand_on, served_value, all_served, missing_key, several, waiting_place, end_of_several}
use Rattle.planning.specs.Rules.{GoodNode, values_then, end_then, places_then, ordered, GoodPlan}
use Rattle.resolving_walk.specs.Commands.{value_at, place_at, values_at, places_at, commands_of, plan_read}
use Rattle.resolving.specs.Plan.{Place, served, waiting, Command, handed_on, cached, cached_array, single, multiple, Plan}
use Rattle.meaning.specs.Nodes.{ValueNodes, no_more, one_more, PlaceNodes, no_place, is_served, is_waiting, NodesOf, no_command, is_handed_on}
use Rattle.meaning.specs.Nodes.{is_cached, is_single, is_array, is_multiple}

-- ---- nodes in order are some commands'

-- a served value's bytes mean the value that is read off them
read-means : (b : Bytes) → IsValue b → Means b (resp.decode b)
read-means b w = rw (values.decode-law b w.v w.means) w.means

-- n served values, of whose followers f accepts
record ValuesRead (f : List Node → Bool) (n : ℕ) (ns : List Node) : Type 0 where
  are : ValueNodes (drop n ns) (values_at n ns) ns
  many : count (values_at n ns) ≡ n
  good : All GoodNode (drop n ns)
  next : f (drop n ns) ≡ true

values-read : (f : List Node → Bool) (n : ℕ) (ns : List Node) → All GoodNode ns → values_then f n ns ≡ true → ValuesRead f n ns
unfolding values_then values_at value_at GoodNode
values-read f zero ns g h = record { are = no_more; many = refl; good = g; next = h }
values-read f (suc n) [] g h = absurd (false≢true h)
values-read f (suc n) (hand_on ∷ ns) g h = absurd (false≢true h)
values-read f (suc n) (served_value b ∷ ns) g h =
    let r = values-read f n ns g.1 h in
    record { are = one_more b _ _ ns (read-means b g.0) r.are; many = ap suc r.many; good = r.good; next = r.next }
values-read f (suc n) (all_served k ∷ ns) g h = absurd (false≢true h)
values-read f (suc n) (missing_key w x ∷ ns) g h = absurd (false≢true h)
values-read f (suc n) (several k ∷ ns) g h = absurd (false≢true h)
values-read f (suc n) (waiting_place w x ∷ ns) g h = absurd (false≢true h)
values-read f (suc n) (end_of_several ∷ ns) g h = absurd (false≢true h)

-- n places and the end of several
record PlacesRead (f : List Node → Bool) (n : ℕ) (ns : List Node) : Type 0 where
  are : PlaceNodes (drop (suc n) ns) (places_at n ns) ns
  many : length (places_at n ns) ≡ n
  good : All GoodNode (drop (suc n) ns)
  next : f (drop (suc n) ns) ≡ true

places-read : (f : List Node → Bool) (n : ℕ) (ns : List Node) → All GoodNode ns → places_then f n ns ≡ true → PlacesRead f n ns
unfolding places_then end_then places_at place_at GoodNode
places-read f zero [] g h = absurd (false≢true h)
places-read f zero (hand_on ∷ ns) g h = absurd (false≢true h)
places-read f zero (served_value v ∷ ns) g h = absurd (false≢true h)
places-read f zero (all_served k ∷ ns) g h = absurd (false≢true h)
places-read f zero (missing_key w x ∷ ns) g h = absurd (false≢true h)
places-read f zero (several k ∷ ns) g h = absurd (false≢true h)
places-read f zero (waiting_place w x ∷ ns) g h = absurd (false≢true h)
places-read f zero (end_of_several ∷ ns) g h = record { are = no_place; many = refl; good = g.1; next = h }
places-read f (suc n) [] g h = absurd (false≢true h)
places-read f (suc n) (hand_on ∷ ns) g h = absurd (false≢true h)
places-read f (suc n) (served_value b ∷ ns) g h =
    let r = places-read f n ns g.1 h in
    record { are = is_served b _ _ ns (read-means b g.0) r.are; many = ap suc r.many; good = r.good; next = r.next }
places-read f (suc n) (all_served k ∷ ns) g h = absurd (false≢true h)
places-read f (suc n) (missing_key w x ∷ ns) g h = absurd (false≢true h)
places-read f (suc n) (several k ∷ ns) g h = absurd (false≢true h)
places-read f (suc n) (waiting_place w x ∷ ns) g h =
    let r = places-read f n ns g.1 h in
    record { are = is_waiting w x _ ns r.are; many = ap suc r.many; good = r.good; next = r.next }
places-read f (suc n) (end_of_several ∷ ns) g h = absurd (false≢true h)

-- k commands
record CommandsRead (k : ℕ) (ns : List Node) : Type 0 where
  are : NodesOf (commands_of k ns) ns
  many : length (commands_of k ns) ≡ k

commands-read : (k : ℕ) (ns : List Node) → All GoodNode ns → ordered k ns ≡ true → CommandsRead k ns
unfolding ordered commands_of GoodNode
commands-read zero [] g h = record { are = no_command; many = refl }
commands-read zero (x ∷ ns) g h = absurd (false≢true h)
commands-read (suc k) [] g h = absurd (false≢true h)
commands-read (suc k) (hand_on ∷ ns) g h =
    let r = commands-read k ns g.1 h in record { are = is_handed_on _ ns r.are; many = ap suc r.many }
commands-read (suc k) (served_value b ∷ ns) g h =
    let r = commands-read k ns g.1 h in record { are = is_cached b _ _ ns (read-means b g.0) r.are; many = ap suc r.many }
commands-read (suc k) (all_served n ∷ ns) g h =
    let a = values-read (λ l. ordered k l) n ns g.1 h in
    let r = commands-read k (drop n ns) a.good a.next in
    record {
      are =
          subst (λ (i : ℕ). NodesOf (cached_array (values_at n ns) ∷ commands_of k (drop n ns)) (all_served i ∷ ns)) a.many
          (is_array _ _ _ ns a.are r.are);
      many = ap suc r.many;
    }
commands-read (suc k) (missing_key w x ∷ ns) g h =
    let r = commands-read k ns g.1 h in record { are = is_single w x _ ns r.are; many = ap suc r.many }
commands-read (suc k) (several n ∷ ns) g h =
    let a = places-read (λ l. ordered k l) n ns g.1 h in
    let r = commands-read k (drop (suc n) ns) a.good a.next in
    record {
      are =
          subst (λ (i : ℕ). NodesOf (multiple (places_at n ns) ∷ commands_of k (drop (suc n) ns)) (several i ∷ ns)) a.many
          (is_multiple _ _ _ ns a.are r.are);
      many = ap suc r.many;
    }
commands-read (suc k) (waiting_place w x ∷ ns) g h = absurd (false≢true h)
commands-read (suc k) (end_of_several ∷ ns) g h = absurd (false≢true h)

-- ---- and some commands' nodes are in order

module _ (f : List Node → Bool) (rest : List Node) where
  -- served values
  record ValuesBack (vs : Values) (ns : List Node) : Type 0 where
    then : values_then f (count vs) ns ≡ f rest
    read : values_at (count vs) ns ≡ vs
    left : drop (count vs) ns ≡ rest

  values-back : {vs : Values} {ns : List Node} → ValueNodes rest vs ns → ValuesBack vs ns
  unfolding values_then values_at value_at
  values-back no_more = record { then = refl; read = refl; left = refl }
  values-back (one_more b v vs ns m w) =
      let r = values-back w in
      record { then = r.then; read = ap₂ more (values.decode-law b v m) r.read; left = r.left }

  -- places
  record PlacesBack (ps : List Place) (ns : List Node) : Type 0 where
    then : places_then f (length ps) ns ≡ f rest
    read : places_at (length ps) ns ≡ ps
    left : drop (suc (length ps)) ns ≡ rest

  places-back : {ps : List Place} {ns : List Node} → PlaceNodes rest ps ns → PlacesBack ps ns
  unfolding places_then end_then places_at place_at
  places-back no_place = record { then = refl; read = refl; left = refl }
  places-back (is_served b v ps ns m w) =
      let r = places-back w in
      record { then = r.then; read = ap₂ (λ z zs. served z ∷ zs) (values.decode-law b v m) r.read; left = r.left }
  places-back (is_waiting w x ps ns q) =
      let r = places-back q in
      record { then = r.then; read = ap (λ (zs : List Place). waiting (missing_until x w) ∷ zs) r.read; left = r.left }

-- commands
record CommandsBack (cs : List Command) (ns : List Node) : Type 0 where
  order : ordered (length cs) ns ≡ true
  read : commands_of (length cs) ns ≡ cs

commands-back : {cs : List Command} {ns : List Node} → NodesOf cs ns → CommandsBack cs ns
unfolding ordered commands_of
commands-back no_command = record { order = refl; read = refl }
commands-back (is_handed_on cs ns w) =
    let r = commands-back w in record { order = r.order; read = ap (λ (zs : List Command). handed_on ∷ zs) r.read }
commands-back (is_cached b v cs ns m w) =
    let r = commands-back w in record { order = r.order; read = ap₂ (λ z zs. cached z ∷ zs) (values.decode-law b v m) r.read }
commands-back (is_single u x cs ns w) =
    let r = commands-back w in record { order = r.order; read = ap (λ (zs : List Command). single (missing_until x u) ∷ zs) r.read }
commands-back (is_array vs cs rest ns q w) =
    let r = commands-back w in
    let b = values-back (λ l. ordered (length cs) l) rest q in
    record {
      order = b.then ∙ r.order;
      read = ap₂ (λ z zs. cached_array z ∷ zs) b.read (ap (commands_of (length cs)) b.left ∙ r.read);
    }
commands-back (is_multiple ps cs rest ns q w) =
    let r = commands-back w in
    let b = places-back (λ l. ordered (length cs) l) rest q in
    record {
      order = b.then ∙ r.order;
      read = ap₂ (λ z zs. multiple z ∷ zs) b.read (ap (commands_of (length cs)) b.left ∙ r.read);
    }

-- ---- the readings

pub order-means : (k : ℕ) (ns : List Node) → All GoodNode ns → (ordered k ns ≡ true) ↔ ((cs : List Command) × (length cs ≡ k) × NodesOf cs ns)
order-means k ns g = (
  λ h. let r = commands-read k ns g h in (commands_of k ns, r.many, r.are),
  λ w. subst (λ (i : ℕ). ordered i ns ≡ true) w.1 (commands-back w.2).order,
)

pub commands-mean : (p : nodes.Plan) (r : Plan) → GoodPlan p
    → (plan_read p ≡ r) ↔ ((r.transaction ≡ p.transaction) × (length r.commands ≡ p.commands) × NodesOf r.commands p.nodes)
unfolding plan_read
commands-mean p r g = (
  λ e.
      let w = commands-read p.commands p.nodes g.each g.order in
      subst (λ (z : Plan). (z.transaction ≡ p.transaction) × (length z.commands ≡ p.commands) × NodesOf z.commands p.nodes) e
      (refl, w.many, w.are),
  λ w.
      let is : commands_of p.commands p.nodes ≡ r.commands =
      ap (λ (k : ℕ). commands_of k p.nodes) (sym w.1) ∙ (commands-back w.2).read in
      λ i. record { transaction = sym w.0 i; commands = is i },
)
