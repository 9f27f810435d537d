-- The plan that planning wrote is a plan, and resolving reads it as the outcomes that it was written for, missing keys and all. Assumes nothing.
use Rattle.std.specs.Prelude.{◌≡◌, Bool, List}
use Rattle.std.proofs.Math.Option.{some}
use Rattle.buffer.specs.Same.{Bytes}
use Rattle.planning.specs.Outcome.{CachingResult}
use Rattle.planning.specs.Plan.{plan_of}
use Rattle.planning.proofs.Gives.{all_missing}
use Rattle.plan.specs.Decode.{decode_plan}
use Rattle.resolving_walk.specs.Commands.{plan_read}
use Rattle.plan_outcomes.specs.Outcomes.{plan_given}
use Rattle.plan_outcomes.specs.Outcomes.{commands_missing}

-- the bytes of a good plan of outcomes are decoded, and read as those outcomes
pub record Read (bytes : Bytes) (b : Bool) (rs : List CachingResult) : Type 0 where
  pub decoded : decode_plan bytes ≡ some (plan_of b rs)
  pub given : plan_read (plan_of b rs) ≡ plan_given b rs
  pub keys : commands_missing (plan_read (plan_of b rs)).commands ≡ all_missing rs
