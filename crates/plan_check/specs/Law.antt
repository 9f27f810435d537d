-- The walk over the nodes, step by step: what is left before a step is a plan's rest exactly if what is left behind it is, and at the end nothing may be left.
-- Assumes nothing.
use Rattle.std.specs.Prelude.{◌≡◌, refl, Option, None, Some, Result, Ok, Err, ◌-◌, Bool, true, false, cond, List, [], ◌∷◌, ◌++◌, ℕ, ◌+◌, ◌≤◌, ◌<◌, drop, eqb}
use Rattle.std.proofs.Math.Path.{sym, ap, subst}
use Rattle.std.proofs.Common.{◌∙◌, arith, length-drop}
use Rattle.std.proofs.lemmas.Bool.{false≢true}
use Rattle.std.proofs.Math.ListN.{length}
use Rattle.std.proofs.Math.Seq.{drop-length}
use Rattle.buffer.specs.Cases.{by_test}
use Rattle.buffer.specs.Same.{Bytes}
use Rattle.buffer.specs.Field.{Octets}
use Rattle.format.specs.Lists.{enc_all, All}
use Rattle.planning.specs.Plan.{Node, enc_node}
use Rattle.planning.specs.Kinds.{same_kind}
use Rattle.planning.specs.declared.NodeKind.{NodeKind}
use Rattle.planning.specs.declared.NodeKind.TheVariants.{HandOn, Served, AllServed, Missing, Several, Waiting, End}
use Rattle.planning.specs.declared.UnknownKind.{UnknownKind}
use Rattle.planning.specs.Rules.{GoodNode}
use Rattle.plan.specs.declared.NodeHead.{NodeHead}
use Rattle.plan.specs.Head.{head_at, end_at}
use Rattle.plan.specs.Node.{first_of, second_of}
use Rattle.plan.specs.There.{NodeAt, head_of, node_law}
use Rattle.plan_check.specs.declared.Walk.{Walk}
use Rattle.plan_check.specs.Check.{whole_at, head_fine, first_node, followed, followed_as, walked_past, finished}
use Rattle.plan_check.specs.Paths.{step_cut, step-bad, step-on}
use Rattle.plan_check.specs.Nodes.{Stands, fine-stands, stands-fine}
use Rattle.plan_check.specs.Order.{ordered_at, ordered_after, order-step, order-end}

-- from where the walk stands, good nodes that may follow there stand to exactly the end
pub record Rest (s : Bytes) (w : Walk) : Type 0 where
  pub nodes : List Node
  pub good : All GoodNode nodes
  pub order : ordered_at w nodes ≡ true
  pub is : drop w.at s ≡ enc_all enc_node nodes

-- ---- one step

-- a step leads to e
EndsAt : ℕ → Option Walk → Type 0
EndsAt e (Some v) = v.at ≡ e
EndsAt e None = Unit {0}

ends-either : (e : ℕ) (t : Bool) (x y : Option Walk) → EndsAt e x → EndsAt e y → EndsAt e (cond t x y)
ends-either e true x y h i = h
ends-either e false x y h i = i

-- a command's first node does
first-ends : (c : ℕ) (k : NodeKind) (x e : ℕ) → EndsAt e (first_node c k x e)
unfolding EndsAt
first-ends c HandOn x e = refl
first-ends c Served x e = refl
first-ends c AllServed x e = refl
first-ends c Missing x e = refl
first-ends c Several x e = refl
first-ends c Waiting x e = tt
first-ends c End x e = tt

-- the step leads to the node's end
step-ends : (w : Walk) (h : NodeHead) → EndsAt h.end (followed w h)
unfolding EndsAt
step-ends w h = by h.kind
  where
    E : ℕ
    E = h.end

    by : (r : Result NodeKind UnknownKind) → EndsAt E (followed_as w r h.number E)
    by (Err n) = tt
    by (Ok k) =
        ends-either E w.several _ _
        (ends-either E (eqb w.places 0) _ _
        (ends-either E (same_kind k End) _ _ refl tt)
        (ends-either E (same_kind k Served) _ _ refl (ends-either E (same_kind k Waiting) _ _ refl tt)))
        (ends-either E (eqb w.places 0) _ _
        (ends-either E (eqb w.commands 0) _ _ tt (first-ends (w.commands - 1) k h.number E))
        (ends-either E (same_kind k Served) _ _ refl tt))

module _ (s : Bytes) (w : Walk) where
  -- what follows a good node that stands where the walk does
  pub record Behind (nd : Node) (r : Bytes) (v : Walk) : Type 0 where
    pub more : w.at < v.at
    pub inside : v.at ≤ length s
    pub rest : drop v.at s ≡ r
    pub order : (ns : List Node) → ordered_at w (nd ∷ ns) ≡ ordered_at v ns

  module _ (nd : Node) (r : Bytes) (there : NodeAt s w.at nd r) where
    -- the step is decided by that node
    step_is : walked_past s w ≡ followed w (head_of w.at nd)
    step_is = let t = stands-fine s w.at nd r there in step-on s w t.0 t.1 ∙ ap (followed w) (node_law s w.at nd r there).head

    -- where it leads on
    behind : (v : Walk) → walked_past s w ≡ Some v → Behind nd r v
    unfolding EndsAt head_of ordered_after
    behind v e =
        let h = node_law s w.at nd r there in
        let f : followed w (head_of w.at nd) ≡ Some v = sym step_is ∙ e in
        let p : v.at ≡ w.at + 20 + length (first_of nd) + length (second_of nd) = subst (EndsAt (head_of w.at nd).end) f (step-ends w (head_of w.at nd)) in
        let l = h.long in
        record {
          more = omega arith;
          inside = omega arith;
          rest = rw p h.rest;
          order = λ ns. order-step w w.at nd ns ∙ ap (λ (x : Option Walk). ordered_after x ns) f;
        }

    -- where it is refused no such node may stand
    none-behind : walked_past s w ≡ None → (ns : List Node) → ordered_at w (nd ∷ ns) ≡ false
    unfolding ordered_after
    none-behind e ns = order-step w w.at nd ns ∙ ap (λ (x : Option Walk). ordered_after x ns) (sym step_is ∙ e)

  -- where nothing is left no node stands
  nothing_left : length s ≤ w.at → (nd : Node) (r : Bytes) → NodeAt s w.at nd r → ⊥
  nothing_left l nd r there = let h = (node_law s w.at nd r there).long in omega arith

  -- where something is left some node has to stand
  something-left : w.at < length s → drop w.at s ≡ [] → ⊥
  something-left l e = let k : length (drop w.at s) ≡ 0 = ap length e in omega (arith, length-drop w.at s)

  -- a step leads on exactly where the tests hold
  step-stands : Octets s → (v : Walk) → walked_past s w ≡ Some v → Stands s w.at
  step-stands octets v e =
      by_test (whole_at s w.at)
      (λ t. by_test (head_fine s (head_at s w.at))
      (λ u. fine-stands s octets w.at t u)
      (λ u. absurd (let f : None ≡ Some v = sym (step-bad s w t u) ∙ e in let z : ◌≡◌ {A = ℕ} 0 1 = cc in omega arith)))
      (λ t. absurd (let f : None ≡ Some v = sym (step_cut s w t) ∙ e in let z : ◌≡◌ {A = ℕ} 0 1 = cc in omega arith))

  -- so what is left before the step and behind it is the same
  pub record Stepped (v : Walk) : Type 0 where
    pub more : w.at < v.at
    pub inside : v.at ≤ length s
    pub ahead : Rest s w → Rest s v
    pub back : Rest s v → Rest s w

  pub step-to : Octets s → (v : Walk) → walked_past s w ≡ Some v → Stepped v
  step-to octets v e =
      let st = step-stands octets v e in
      let b = behind st.node (drop (end_at s w.at) s) st.there v e in
      record { more = b.more; inside = b.inside; ahead = λ q. on q.nodes q.good q.order q.is; back = λ q. off st b q }
    where
      on : (ns : List Node) → All GoodNode ns → ordered_at w ns ≡ true → drop w.at s ≡ enc_all enc_node ns → Rest s v
      on [] g o i =
          let st = step-stands octets v e in
          let l = (node_law s w.at st.node _ st.there).long in
          absurd (something-left (omega arith) i)
      on (nd ∷ ns) g o i =
          let b = behind nd (enc_all enc_node ns) (record { good = g.0; is = i }) v e in
          record { nodes = ns; good = g.1; order = sym (b.order ns) ∙ o; is = b.rest }

      off : (st : Stands s w.at) → Behind st.node (drop (end_at s w.at) s) v → Rest s v → Rest s w
      off st b q =
          record {
            nodes = st.node ∷ q.nodes;
            good = (st.there.good, q.good);
            order = b.order q.nodes ∙ q.order;
            is = st.there.is ∙ ap (λ (l : Bytes). enc_node st.node ++ l) (sym b.rest ∙ q.is);
          }

  -- a step that is refused has nothing that may follow
  pub step-refused : w.at < length s → walked_past s w ≡ None → Rest s w → ⊥
  step-refused l e q = go q.nodes q.good q.order q.is
    where
      go : (ns : List Node) → All GoodNode ns → ordered_at w ns ≡ true → drop w.at s ≡ enc_all enc_node ns → ⊥
      go [] g o i = something-left l i
      go (nd ∷ ns) g o i = false≢true (sym (none-behind nd (enc_all enc_node ns) (record { good = g.0; is = i }) e ns) ∙ o)

  -- ---- the end

  -- where nothing is left and nothing has to follow
  pub end-yes : w.at ≡ length s → finished w ≡ true → Rest s w
  end-yes l e = record { nodes = []; good = tt; order = order-end w ∙ e; is = rw l (drop-length s) }

  -- where something has to
  pub end-no : w.at ≡ length s → finished w ≡ false → Rest s w → ⊥
  end-no l e q = go q.nodes q.good q.order q.is
    where
      go : (ns : List Node) → All GoodNode ns → ordered_at w ns ≡ true → drop w.at s ≡ enc_all enc_node ns → ⊥
      go [] g o i = false≢true (sym e ∙ sym (order-end w) ∙ o)
      go (nd ∷ ns) g o i = nothing_left (omega arith) nd (enc_all enc_node ns) (record { good = g.0; is = i })
