-- `planning_ask::may_have` meets its contract. Assumes nothing.
use mathlib.Core.Path.{sym, ◌∙◌}
use Rattle.planning.specs.Ask as plan
use Rattle.planning_ask.proofs.may_have.Goals as goal

pub returns-then-takes_sole_key : goal.returns-then-takes_sole_key
unfolding plan.may_have
returns-then-takes_sole_key c = let t = sym c.takes_sole_key.ensures ∙ c.if-takes_sole_key.true in rw t

pub returns : goal.returns
unfolding plan.may_have
returns c = let t = sym c.takes_sole_key.ensures ∙ c.if-takes_sole_key.false in rw t
