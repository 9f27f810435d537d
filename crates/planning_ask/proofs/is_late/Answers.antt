-- `planning_ask::is_late` meets its contract. Assumes nothing.
use mathlib.Core.Path.{sym, ap, ◌∙◌}
use Prim.Native.Nat.{ℕ, ◌+◌}
use Rattle.planning_ask.specs.Reaching as laws
use Rattle.planning_ask.specs.Steps.{late_by}
use Rattle.planning_ask.proofs.is_late.Goals as goal

pub returns : goal.returns
returns c =
    c.past_end.ensures ∙ ap (λ (x : ℕ). late_by c.reach-reached.result (c.args.clock + x))
    c.client_ttl.ensures ∙ sym (laws.late_is _ c.reach-reached.result _ _ _ c.reach-reached.ensures.0)
