-- `argument_count` meets its contract. Assumes nothing.
use mathlib.Core.Path.{sym, ap}
use mathlib.Core.Bool.{Bool, cond}
use Prim.Native.Nat.{◌+◌}
use Rattle.planning_send.proofs.argument_count.Goals as goal

pub returns-then-json : goal.returns-then-json
returns-then-json c = ap (λ (b : Bool). c.args.n + cond b 2 1) (sym c.if-json.true)

pub returns-else-json : goal.returns-else-json
returns-else-json c = ap (λ (b : Bool). c.args.n + cond b 2 1) (sym c.if-json.false)
