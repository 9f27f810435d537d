-- `place_at` meets its contract, by where places are read from. Assumes nothing.
use mathlib.Core.Path.{sym, ◌∙◌}
use Rattle.std.proofs.lemmas.Bool.{false≢true}
use Rattle.planning.proofs.KindsEqual.{served_only, served_same}
use Rattle.planning_places.specs.Source as laws
use Rattle.planning_places.proofs.place_at.Goals as goal

pub node_at-node-requires : goal.node_at-node-requires
node_at-node-requires c = laws.node_in _ _ _ c.in-Nodes.is c.requires

pub next_key-next-requires : goal.next_key-next-requires
next_key-next-requires c = laws.key_in _ _ _ c.in-Keys.is c.requires

pub returns-then-eq : goal.returns-then-eq
returns-then-eq c =
    λ n w. laws.served-step _ _ _ n _ c.in-Nodes.is c.node_at-node.ensures w (served_only _ (sym c.eq.ensures ∙ c.if-eq.true))

pub returns-else-eq : goal.returns-else-eq
returns-else-eq c =
    λ n w. laws.waiting-step _ _ _ n _ c.in-Nodes.is c.node_at-node.ensures w
    (λ k. false≢true (sym c.if-eq.false ∙ c.eq.ensures ∙ served_same _ k))

pub returns-in-Keys : goal.returns-in-Keys
returns-in-Keys c =
    λ n w. laws.key_step _ _ _ n c.next_key-next.result c.in-Keys.is
    c.next_key-next.ensures w
