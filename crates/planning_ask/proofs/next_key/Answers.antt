-- `planning_ask::next_key` meets its contract. Assumes nothing.
use mathlib.Core.Path.{sym, refl, ◌∙◌}
use native.Mathlib.Omega.{arith}
use Rattle.cursor.specs.Steps.{Stepped, stepped, step-there}
use Rattle.planning_ask.specs.Simple as laws
use Rattle.planning_ask.proofs.next_key.Goals as goal
use Rattle.planning_ask.proofs.next_key.Goals.{After-unwrap-arg}

-- the argument that comes
this : (c : After-unwrap-arg) → Stepped c.args.bytes.now c.loop-key.k c.unwrap-arg.result.0 c.unwrap-arg.result.1
this c = stepped _ _ _ _ c.loop-key.invariant.here (sym c.next_arg.ensures ∙ c.unwrap-arg.ensures)

pub loop-key-init : goal.loop-key-init
loop-key-init c = record { here = c.requires.0; some = c.requires.1; is = refl }

pub unwrap-arg-requires : goal.unwrap-arg-requires
unwrap-arg-requires c = rw c.next_arg.ensures (step-there c.args.bytes.now c.loop-key.k (laws.ahead_more _ _ _ c.loop-key.invariant))

pub returns-in-Some : goal.returns-in-Some
returns-in-Some c =
    laws.ahead-found _ _ _ c.loop-key.invariant _ _ (this (goal.at.returns-in-Some c).After-unwrap-arg) _ (sym c.simple.ensures ∙ c.in-Some.is)

pub loop-key-smaller : goal.loop-key-smaller
loop-key-smaller c = let n = (this (goal.at.loop-key-smaller c).After-unwrap-arg).count in omega arith

pub loop-key-preserved : goal.loop-key-preserved
loop-key-preserved c =
    laws.ahead-next _ _ _ c.loop-key.invariant _ _ (this (goal.at.loop-key-preserved c).After-unwrap-arg) (sym c.simple.ensures ∙ c.in_default.is)
