-- The step at a plan's node is the walk's. Assumes nothing.
use Rattle.std.specs.Prelude.{◌≡◌, refl, Option, None, Some, Result, Ok, Err, List, ◌∷◌, ℕ, ◌+◌, ◌-◌, ◌≤◌, length, drop}
use Rattle.std.proofs.Common.{sym, ap, ◌∙◌, arith}
use Rattle.buffer.specs.Same.{Bytes}
use Rattle.config.specs.declared.CacheMode.{CacheMode}
use Rattle.config.specs.declared.CacheMode.TheVariants.{All, OptIn}
use Rattle.format.specs.Lists.{enc_all}
use Rattle.resp3.specs.Value.{Values, none, more}
use Rattle.book.specs.Calls.{Wanted, missing_until}
use Rattle.planning.specs.Plan.{Node, hand_on, served_value, all_served, missing_key, several, waiting_place, end_of_several, enc_node}
use Rattle.planning.specs.Plan.{missing_kind, several_kind}
use Rattle.std.specs.Result.{result_ok}
use Rattle.planning.specs.Kinds.{number_of_kind, kind_of_number, kind_found, kind_is}
use Rattle.planning.specs.declared.NodeKind.{NodeKind}
use Rattle.planning.specs.declared.NodeKind.TheVariants.{HandOn, Served, AllServed, Missing as MissingKind, Several, Waiting, End}
use Rattle.planning.specs.declared.UnknownKind.{UnknownKind}
use Rattle.planning.specs.Rules.{GoodNode}
use Rattle.plan.specs.declared.NodeHead.{NodeHead}
use Rattle.plan.specs.Head.{head_at, HeadIn}
use Rattle.plan.specs.Node.{kind_of, first_of, second_of, node-defs}
use Rattle.plan.specs.There.{head_of, node_law}
use Rattle.resolving_walk.proofs.NodesLaws.{asked}
use Rattle.resolving_walk.specs.Walk.{Move, stop, move, opted, single_move, several_move, node_move}
use Rattle.resolving_step.specs.declared.Walk.{Walk}
use Rattle.resolving_step.specs.declared.Step.{Step}
use Rattle.resolving_step.specs.declared.Next.TheVariants.{Plan, Head}
use Rattle.resolving_step.specs.Steps.{Bounds, Lists, Placed, At, MissedIs, Moved, HandsOn, ReadyFor, Readies, TakesSingle, TakesSeveral, Waits}
use Rattle.resolving_step.specs.Steps.{missed_of, Ends, HeadFor, OnNode, Does, StepIs}
use Rattle.resolving_step.specs.Says.{plan-says, head-says}
use Rattle.resolving_step.specs.Arms.{says}

-- a step from another place at the same node
at_same : (p s : Bytes) (c d : Walk) (r : Option Step) (v : Move) → d.at ≡ c.at → Moved p s d r v → Moved p s c r v
at_same p s c d None stop e k = k
at_same p s c d None (move g es rs) e k = k
at_same p s c d (Some r) stop e k = k
at_same p s c d (Some r) (move g es rs) e k = (k.0, k.1, k.2 ∙ e)

module _ (p s : Bytes) (b : Bounds p s) (c : Walk) (n : NodeHead) where
  -- the key of a missing node
  missed-is : (w : Wanted) (x : ℕ) → HeadFor p n (missing_key w x) → MissedIs p (missed_of n) (missing_until x w)
  unfolding node-defs
  missed-is w x h =
      record {
        inside = record { order = h.order; between = h.between; within = h.within };
        key = h.first;
        command = h.second;
        expiry = h.number;
        asked = asked w x h.good;
      }

  -- of a place that waits
  waiting-is : (w : Wanted) (x : ℕ) → HeadFor p n (waiting_place w x) → MissedIs p (missed_of n) (missing_until x w)
  unfolding node-defs GoodNode
  waiting-is w x h =
      record {
        inside = record { order = h.order; between = h.between; within = h.within };
        key = h.first;
        command = h.second;
        expiry = h.number;
        asked = record { key = h.good.0.key; command = h.good.0.command; expiry = h.good.1 };
      }

  -- ---- by the node's kind

  -- it has a kind
  some_kind : (nd : Node) → result_ok (kind_of_number (kind_of nd)) ≡ None → ⊥
  unfolding node-defs kind_of_number
  some_kind hand_on e = let z : ◌≡◌ {A = ℕ} 0 1 = cc in omega arith
  some_kind (served_value v) e = let z : ◌≡◌ {A = ℕ} 0 1 = cc in omega arith
  some_kind (all_served m) e = let z : ◌≡◌ {A = ℕ} 0 1 = cc in omega arith
  some_kind (missing_key w x) e = let z : ◌≡◌ {A = ℕ} 0 1 = cc in omega arith
  some_kind (several m) e = let z : ◌≡◌ {A = ℕ} 0 1 = cc in omega arith
  some_kind (waiting_place w x) e = let z : ◌≡◌ {A = ℕ} 0 1 = cc in omega arith
  some_kind end_of_several e = let z : ◌≡◌ {A = ℕ} 0 1 = cc in omega arith

  pub no-kind : (o : Option NodeKind) (nd : Node) → HeadFor p n nd → o ≡ result_ok n.kind → o ≡ None → ⊥
  no-kind o nd h q e = some_kind nd (ap (λ (k : Result NodeKind UnknownKind). result_ok k) (sym h.kind) ∙ sym q ∙ e)

  pub one-kind : (o : Option NodeKind) (k : NodeKind) → o ≡ result_ok n.kind → o ≡ Some k → n.kind ≡ Ok k
  one-kind o k q e = go n.kind (sym q ∙ e)
    where
      go : (r : Result NodeKind UnknownKind) → result_ok r ≡ Some k → r ≡ Ok k
      go (Ok j) i = let z : j ≡ k = cc in ap Ok z
      go (Err x) i = absurd (let z : ◌≡◌ {A = ℕ} 0 1 = cc in omega arith)

  -- one key is not several
  pub missing-one : n.kind ≡ Ok MissingKind → n.kind ≡ Ok Several → ⊥
  missing-one e f = let z : ◌≡◌ {A = Result NodeKind UnknownKind} (Ok MissingKind) (Ok Several) = sym e ∙ f in let y : ◌≡◌ {A = ℕ} 0 1 = cc in omega arith

  -- a head's kind is its node's
  pub kind-says : (k : NodeKind) (nd : Node) → HeadFor p n nd → n.kind ≡ Ok k → kind_of nd ≡ number_of_kind k
  kind-says k nd h e = kind_is (kind_of nd) k (sym h.kind ∙ e)

  module _ (mode : CacheMode) (clock : ℕ) (r : Option Step) where
    pub on-hand : n.kind ≡ Ok HandOn → HandsOn s c r → (nd : Node) (es rs : Values) → HeadFor p n nd → Lists s c es rs
        → Moved p s c r (node_move mode clock nd es rs)
    unfolding node-defs node_move
    on-hand k f hand_on es rs h l = f p es rs b l
    on-hand k f (served_value v) es rs h l = absurd (omega (arith, kind-says HandOn _ h k))
    on-hand k f (all_served m) es rs h l = absurd (omega (arith, kind-says HandOn _ h k))
    on-hand k f (missing_key w x) es rs h l = absurd (omega (arith, kind-says HandOn _ h k))
    on-hand k f (several m) es rs h l = absurd (omega (arith, kind-says HandOn _ h k))
    on-hand k f (waiting_place w x) es rs h l = absurd (omega (arith, kind-says HandOn _ h k))
    on-hand k f end_of_several es rs h l = absurd (omega (arith, kind-says HandOn _ h k))

    pub on_value : n.kind ≡ Ok Served → r ≡ Some (says (Plan n.first n.second) c) → (nd : Node) (es rs : Values) → HeadFor p n nd → Lists s c es rs
        → Moved p s c r (node_move mode clock nd es rs)
    unfolding node-defs node_move
    on_value k f hand_on es rs h l = absurd (omega (arith, kind-says Served _ h k))
    on_value k f (served_value v) es rs h l = rw f (plan-says p s n.first n.second v h.order (omega (arith, h.between, h.within)) h.first, l, refl)
    on_value k f (all_served m) es rs h l = absurd (omega (arith, kind-says Served _ h k))
    on_value k f (missing_key w x) es rs h l = absurd (omega (arith, kind-says Served _ h k))
    on_value k f (several m) es rs h l = absurd (omega (arith, kind-says Served _ h k))
    on_value k f (waiting_place w x) es rs h l = absurd (omega (arith, kind-says Served _ h k))
    on_value k f end_of_several es rs h l = absurd (omega (arith, kind-says Served _ h k))

    pub on-all : n.kind ≡ Ok AllServed → r ≡ Some (says (Head n.number) c) → (nd : Node) (es rs : Values) → HeadFor p n nd → Lists s c es rs
        → Moved p s c r (node_move mode clock nd es rs)
    unfolding node-defs node_move
    on-all k f hand_on es rs h l = absurd (omega (arith, kind-says AllServed _ h k))
    on-all k f (served_value v) es rs h l = absurd (omega (arith, kind-says AllServed _ h k))
    on-all k f (all_served m) es rs h l = rw (f, h.number) (head-says p s m, l, refl)
    on-all k f (missing_key w x) es rs h l = absurd (omega (arith, kind-says AllServed _ h k))
    on-all k f (several m) es rs h l = absurd (omega (arith, kind-says AllServed _ h k))
    on-all k f (waiting_place w x) es rs h l = absurd (omega (arith, kind-says AllServed _ h k))
    on-all k f end_of_several es rs h l = absurd (omega (arith, kind-says AllServed _ h k))

    pub on-waiting : n.kind ≡ Ok Waiting → (w : Step) → r ≡ Some w → Waits s c (missed_of n) clock w → (nd : Node) (es rs : Values) → HeadFor p n nd → Lists s c es rs
        → Moved p s c r (node_move mode clock nd es rs)
    unfolding node-defs node_move
    on-waiting k u q f hand_on es rs h l = absurd (omega (arith, kind-says Waiting _ h k))
    on-waiting k u q f (served_value v) es rs h l = absurd (omega (arith, kind-says Waiting _ h k))
    on-waiting k u q f (all_served m) es rs h l = absurd (omega (arith, kind-says Waiting _ h k))
    on-waiting k u q f (missing_key w x) es rs h l = absurd (omega (arith, kind-says Waiting _ h k))
    on-waiting k u q f (several m) es rs h l = absurd (omega (arith, kind-says Waiting _ h k))
    on-waiting k u q f (waiting_place w x) es rs h l = rw q (f p (missing_until x w) es rs b (waiting-is w x h) l)
    on-waiting k u q f end_of_several es rs h l = absurd (omega (arith, kind-says Waiting _ h k))

    pub on-end : n.kind ≡ Ok End → (w : Step) → r ≡ Some w → Ends s c w → (nd : Node) (es rs : Values) → HeadFor p n nd → Lists s c es rs → Moved p s c r (node_move mode clock nd es rs)
    unfolding node-defs node_move
    on-end k u q f hand_on es rs h l = absurd (omega (arith, kind-says End _ h k))
    on-end k u q f (served_value v) es rs h l = absurd (omega (arith, kind-says End _ h k))
    on-end k u q f (all_served m) es rs h l = absurd (omega (arith, kind-says End _ h k))
    on-end k u q f (missing_key w x) es rs h l = absurd (omega (arith, kind-says End _ h k))
    on-end k u q f (several m) es rs h l = absurd (omega (arith, kind-says End _ h k))
    on-end k u q f (waiting_place w x) es rs h l = absurd (omega (arith, kind-says End _ h k))
    on-end k u q f end_of_several es rs h l = rw q (f p es rs b l)

    -- ---- a missing command

    -- after the reply that opt-in drops, the walk stands at the same node
    opted-move : (m : CacheMode) (rs : Values) (es : Values) (d : Walk) (f : Values → Move) → ReadyFor s c es m rs (Some d)
        → ((q : Values) → Lists s d es q → Moved p s d r (f q)) → Moved p s c r (opted m rs f)
    opted-move All rs es d f h g = at_same p s c d r (f rs) h.1 (g rs h.0)
    opted-move OptIn none es d f h g = absurd h
    opted-move OptIn (more v rs) es d f h g = at_same p s c d r (f rs) h.1 (g rs h.0)

    stop-move : (m : CacheMode) (rs : Values) (es : Values) (f : Values → Move) → ReadyFor s c es m rs None → r ≡ None → Moved p s c r (opted m rs f)
    stop-move All rs es f h e = absurd h
    stop-move OptIn none es f h e = rw e tt
    stop-move OptIn (more v rs) es f h e = absurd h

    pub missing-stop : Readies s c mode None → r ≡ None → (nd : Node) (es rs : Values) → HeadFor p n nd
        → missing_kind ≤ kind_of nd → kind_of nd ≤ several_kind → Lists s c es rs
        → Moved p s c r (node_move mode clock nd es rs)
    unfolding node-defs node_move
    missing-stop f e hand_on es rs h i j l = absurd (omega arith)
    missing-stop f e (served_value v) es rs h i j l = absurd (omega arith)
    missing-stop f e (all_served m) es rs h i j l = absurd (omega arith)
    missing-stop f e (missing_key w x) es rs h i j l = stop-move mode rs es (λ q. single_move clock (missing_until x w) es q) (f es rs l) e
    missing-stop f e (several m) es rs h i j l = stop-move mode rs es (λ q. several_move m q) (f es rs l) e
    missing-stop f e (waiting_place w x) es rs h i j l = absurd (omega arith)
    missing-stop f e end_of_several es rs h i j l = absurd (omega arith)

    pub missing-several : (d : Walk) → Readies s c mode (Some d) → n.kind ≡ Ok Several → TakesSeveral s d n.number r
        → (nd : Node) (es rs : Values) → HeadFor p n nd → missing_kind ≤ kind_of nd → kind_of nd ≤ several_kind → Lists s c es rs
        → Moved p s c r (node_move mode clock nd es rs)
    unfolding node-defs node_move
    missing-several d f k t hand_on es rs h i j l = absurd (omega arith)
    missing-several d f k t (served_value v) es rs h i j l = absurd (omega arith)
    missing-several d f k t (all_served m) es rs h i j l = absurd (omega arith)
    missing-several d f k t (missing_key w x) es rs h i j l = absurd (omega (arith, kind-says Several _ h k))
    missing-several d f k t (several m) es rs h i j l =
        opted-move mode rs es d (λ q. several_move m q) (f es rs l) (λ q g. rw h.number at (t p es q b g))
    missing-several d f k t (waiting_place w x) es rs h i j l = absurd (omega arith)
    missing-several d f k t end_of_several es rs h i j l = absurd (omega arith)

    pub missing-single : (d : Walk) → Readies s c mode (Some d) → ((n.kind ≡ Ok Several) → ⊥) → TakesSingle s d (missed_of n) clock r
        → (nd : Node) (es rs : Values) → HeadFor p n nd → missing_kind ≤ kind_of nd → kind_of nd ≤ several_kind → Lists s c es rs
        → Moved p s c r (node_move mode clock nd es rs)
    unfolding node-defs node_move
    missing-single d f k t hand_on es rs h i j l = absurd (omega arith)
    missing-single d f k t (served_value v) es rs h i j l = absurd (omega arith)
    missing-single d f k t (all_served m) es rs h i j l = absurd (omega arith)
    missing-single d f k t (missing_key w x) es rs h i j l =
        opted-move mode rs es d (λ q. single_move clock (missing_until x w) es q) (f es rs l) (λ q g. t p (missing_until x w) es q b (missed-is w x h) g)
    missing-single d f k t (several m) es rs h i j l = absurd (k (h.kind ∙ kind_found Several))
    missing-single d f k t (waiting_place w x) es rs h i j l = absurd (omega arith)
    missing-single d f k t end_of_several es rs h i j l = absurd (omega arith)

-- some lists are left after the reply that opt-in drops
pub ready-placed : (s : Bytes) (c d : Walk) (mode : CacheMode) → Placed s c → Readies s c mode (Some d) → Placed s d
ready-placed s c d mode a f = go mode a.rs (f a.es a.rs a.lists)
  where
    go : (m : CacheMode) (rs : Values) → ReadyFor s c a.es m rs (Some d) → Placed s d
    go All rs h = record { es = a.es; rs = rs; lists = h.0 }
    go OptIn none h = absurd h
    go OptIn (more v rs) h = record { es = a.es; rs = rs; lists = h.0 }

-- ---- the step

-- the head of the node at which the walk stands
pub head-for : (p s : Bytes) (c : Walk) (nd : Node) (ns : List Node) (es rs : Values) → GoodNode nd → At p s c (nd ∷ ns) es rs → HeadFor p (head_at p c.at) nd
unfolding head_of
head-for p s c nd ns es rs g h =
    let t = node_law p c.at nd (enc_all enc_node ns) (record { good = g; is = h.nodes }) in
    let a : c.at + 20 + length (first_of nd) - (c.at + 20) ≡ length (first_of nd) = omega arith in
    let e : c.at + 20 + length (first_of nd) + length (second_of nd) - (c.at + 20 + length (first_of nd)) ≡ length (second_of nd) = omega arith in
    rw t.head
    (record {
      good = g;
      kind = refl;
      number = refl;
      order = omega arith;
      between = omega arith;
      within = t.long;
      first = rw a t.first;
      second = rw e t.second;
    })

-- a whole node stands there
pub head_in : (p s : Bytes) (c : Walk) (nd : Node) (ns : List Node) (es rs : Values) → GoodNode nd → At p s c (nd ∷ ns) es rs → HeadIn p c.at
head_in p s c nd ns es rs g h = (node_law p c.at nd (enc_all enc_node ns) (record { good = g; is = h.nodes })).inside

-- the walk behind a node
abbrev pub behind_node : Walk → NodeHead → Walk
behind_node c n = record { at = n.end; reply = c.reply; from = c.from; to = c.to; element = c.element }

pub step-law : (p s : Bytes) (c : Walk) (n : NodeHead) (mode : CacheMode) (clock : ℕ) (r : Option Step) → n ≡ head_at p c.at
    → OnNode s (behind_node c n) n mode clock r
    → StepIs p s c mode clock r
unfolding head_of
step-law p s c n mode clock r e f nd ns es rs b g h =
    go r (node_move mode clock nd es rs)
    (f p nd es rs b (rw (sym e) at (head-for p s c nd ns es rs g h))
    (record { replies = h.lists.replies; order = h.lists.order; within = h.lists.within; elements = h.lists.elements }))
  where
    ends : n.end ≡ c.at + 20 + length (first_of nd) + length (second_of nd)
    ends = ap (λ (k : NodeHead). k.end) (e ∙ (node_law p c.at nd (enc_all enc_node ns) (record { good = g; is = h.nodes })).head)

    go : (o : Option Step) (v : Move) → Moved p s (behind_node c n) o v → Does p s ns o v
    go None stop k = k
    go None (move x es rs) k = k
    go (Some w) stop k = k
    go (Some w) (move x es rs) k =
        let t = node_law p c.at nd (enc_all enc_node ns) (record { good = g; is = h.nodes }) in
        let z : w.walk.at ≡ c.at + 20 + length (first_of nd) + length (second_of nd) = k.2 ∙ ends in
        (k.0, record { nodes = ap (λ (i : ℕ). drop i p) z ∙ t.rest; here = omega (arith, t.long); lists = k.1 })
