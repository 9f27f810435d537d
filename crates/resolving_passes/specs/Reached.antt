-- The invariant that all passes share: what of the walk is done, and that the rest is the walk from the place reached. Assumes nothing.
use Rattle.std.specs.Prelude.{◌≡◌, None, Some, ℕ, ◌≤◌, ◌<◌, drop}
use Rattle.std.proofs.Common.{◌∙◌, arith, length-append}
use Rattle.std.proofs.Math.Path.{ap}
use mathlib.Core.List.{List, [], ◌∷◌, ◌++◌, append-nil}
use Rattle.std.proofs.Math.ListN.{length, length-drop}
use Rattle.buffer.specs.Same.{Bytes}
use Rattle.buffer.specs.FieldLaws.{length-le}
use Rattle.config.specs.declared.CacheMode.{CacheMode}
use Rattle.format.specs.Lists.{enc_all}
use Rattle.resp3.specs.Value.{Values}
use Rattle.book.specs.Calls.{Storing}
use Rattle.planning.specs.Plan.{Node, enc_node, node_bytes}
use Rattle.plan.specs.Head.{HeadIn}
use Rattle.plan.specs.Node.{kind_of, first_of, second_of, number_of, node-is}
use Rattle.resolving.specs.Kept.{AllStorable}
use Rattle.resolving_walk.specs.Walk.{Move, stop, move, node_move, bytes_of, stores_of, Walked, stopped, through, before, move_then, walk}
use Rattle.resolving_walk.proofs.WalkLaws.{before-nothing, before-before}
use Rattle.resolving_step.specs.declared.Walk.{Walk}
use Rattle.resolving_step.specs.declared.Step.{Step}
use Rattle.resolving_step.specs.Steps.{next_bytes, next_stores, NextIn, Placed, Does, StepIs}
use Rattle.resolving_step.specs.Laws.{head_in}
use Rattle.resolving_passes.specs.Passes.{Starts, Begins}

module _ (p s : Bytes) (mode : CacheMode) (clock : ℕ) where
  -- of the walk o, the bytes bs and the stores ss are done, and the rest is the walk from c
  pub record Reached (o : Walked) (c : Walk) (bs : Bytes) (ss : List Storing) : Type 0 where
    pub rest : Begins p s c
    pub is : o ≡ before bs ss (walk mode clock rest.ns rest.es rest.rs)

  -- at the start nothing is done
  pub start : (c : Walk) (ns : List Node) (es rs : Values) → Starts p s c ns es rs → Reached (walk mode clock ns es rs) c [] []
  start c ns es rs h = record { rest = record { ns = ns; es = es; rs = rs; starts = h }; is = before-nothing (walk mode clock ns es rs) }

  -- what a step asks for, before the plan's end
  pub step-ready : (c : Walk) → Begins p s c → c.at < length p → HeadIn p c.at × Placed s c
  step-ready c b l = go b.ns b.starts
    where
      go : (ns : List Node) → Starts p s c ns b.es b.rs → HeadIn p c.at × Placed s c
      go [] h = absurd (let z = ap length h.at.nodes in omega (arith, simp length-drop at z))
      go (nd ∷ ns) h = (head_in p s c nd ns b.es b.rs h.good.0 h.at, record { es = b.es; rs = b.rs; lists = h.at.lists })

  -- what a step gives
  pub record Stepped (o : Walked) (c : Walk) (bs : Bytes) (ss : List Storing) (r : Step) : Type 0 where
    pub inside : NextIn p s r.next
    pub storable : AllStorable (next_stores p s r.next)
    pub on : Reached o r.walk (bs ++ next_bytes p s r.next) (ss ++ next_stores p s r.next)
    pub far : c.at < r.walk.at
    pub near : r.walk.at ≤ length p

  -- a node has bytes
  longer : (nd : Node) (r : Bytes) → length r < length (enc_node nd ++ r)
  unfolding node_bytes
  longer nd r =
      rw (node-is nd)
      (simp (length-append, length-le 4 (kind_of nd), length-le 4 (length (first_of nd)), length-le 4 (length (second_of nd)), length-le 8 (number_of nd))
      (omega arith))

  further : (a b : ℕ) (nd : Node) (r : Bytes) → a ≤ length p → b ≤ length p → drop a p ≡ enc_node nd ++ r → drop b p ≡ r → a < b
  further a b nd r i j h g = let k = longer nd r in omega (arith, simp length-drop at (ap length h), simp length-drop at (ap length g))

  stepped-node : (o : Walked) (c : Walk) (bs : Bytes) (ss : List Storing) (r : Step) (nd : Node) (ns : List Node) (es rs : Values)
      → Starts p s c (nd ∷ ns) es rs
      → o ≡ before bs ss (walk mode clock (nd ∷ ns) es rs) → StepIs p s c mode clock (Some r) → Stepped o c bs ss r
  unfolding walk
  stepped-node o c bs ss r nd ns es rs h e f = go (node_move mode clock nd es rs) (f nd ns es rs h.bounds h.good.0 h.at) e
    where
      go : (v : Move) → Does p s ns (Some r) v → o ≡ before bs ss (move_then v (λ q k. walk mode clock ns q k)) → Stepped o c bs ss r
      go stop d g = absurd d
      go (move x fs qs) d g =
          record {
            inside = d.0.inside;
            storable = d.0.storable;
            on = record {
              rest = record { ns = ns; es = fs; rs = qs; starts = record { at = d.1; good = h.good.1; bounds = h.bounds } };
              is = g ∙ before-before bs (bytes_of x) ss (stores_of x) (walk mode clock ns fs qs) ∙ rw (d.0.bytes, d.0.stores);
            };
            far = further c.at r.walk.at nd (enc_all enc_node ns) h.at.here d.1.here h.at.nodes d.1.nodes;
            near = d.1.here;
          }

  pub stepped : (o : Walked) (c : Walk) (bs : Bytes) (ss : List Storing) (r : Step) → Reached o c bs ss → c.at < length p
      → StepIs p s c mode clock (Some r)
      → Stepped o c bs ss r
  stepped o c bs ss r h l f = go h.rest.ns h.rest.starts h.is
    where
      go : (ns : List Node) → Starts p s c ns h.rest.es h.rest.rs → o ≡ before bs ss (walk mode clock ns h.rest.es h.rest.rs)
          → Stepped o c bs ss r
      go [] k e = absurd (let z = ap length k.at.nodes in omega (arith, simp length-drop at z))
      go (nd ∷ ns) k e = stepped-node o c bs ss r nd ns h.rest.es h.rest.rs k e f

  -- where there is no step, the walk stops
  stops-node : (o : Walked) (c : Walk) (bs : Bytes) (ss : List Storing) (nd : Node) (ns : List Node) (es rs : Values)
      → Starts p s c (nd ∷ ns) es rs
      → o ≡ before bs ss (walk mode clock (nd ∷ ns) es rs) → StepIs p s c mode clock None → o ≡ stopped ss
  unfolding walk
  stops-node o c bs ss nd ns es rs h e f = go (node_move mode clock nd es rs) (f nd ns es rs h.bounds h.good.0 h.at) e
    where
      go : (v : Move) → Does p s ns None v → o ≡ before bs ss (move_then v (λ q k. walk mode clock ns q k)) → o ≡ stopped ss
      go stop d g = g ∙ ap stopped (append-nil ss)
      go (move x fs qs) d g = absurd d

  pub stops : (o : Walked) (c : Walk) (bs : Bytes) (ss : List Storing) → Reached o c bs ss → c.at < length p → StepIs p s c mode clock None
      → o ≡ stopped ss
  stops o c bs ss h l f = go h.rest.ns h.rest.starts h.is
    where
      go : (ns : List Node) → Starts p s c ns h.rest.es h.rest.rs → o ≡ before bs ss (walk mode clock ns h.rest.es h.rest.rs) → o ≡ stopped ss
      go [] k e = absurd (let z = ap length k.at.nodes in omega (arith, simp length-drop at z))
      go (nd ∷ ns) k e = stops-node o c bs ss nd ns h.rest.es h.rest.rs k e f

  -- at the plan's end all is done
  pub ended : (o : Walked) (c : Walk) (bs : Bytes) (ss : List Storing) → Reached o c bs ss → length p ≤ c.at → o ≡ through bs ss
  unfolding walk
  ended o c bs ss h l = go h.rest.ns h.rest.starts h.is
    where
      go : (ns : List Node) → Starts p s c ns h.rest.es h.rest.rs → o ≡ before bs ss (walk mode clock ns h.rest.es h.rest.rs)
          → o ≡ through bs ss
      go [] k e = e ∙ rw (append-nil bs, append-nil ss)
      go (nd ∷ ns) k e =
          absurd (let z = longer nd (enc_all enc_node ns) in omega (arith, simp length-drop at (ap length k.at.nodes)))
