-- `caching::plan_call::plan_return` meets its contract. Assumes nothing.
use Rattle.std.specs.Prelude.{◌≡◌, refl, Result, Err}
use Rattle.std.proofs.Common.{sym, ap, ap₂, ◌∙◌}
use Rattle.config.specs.Causes.{number}
use Rattle.config.specs.declared.Cause.{Cause}
use Rattle.config.specs.declared.Cause.TheVariants.{BadConfig, BadRecord, TooLong, LateExpiry, ShortBuffer, BadReply, BadShape, ShortAnswer, BadArena, BadPlan, NoSpace}
use Rattle.cache_manager.specs.declared.Written.{Written}
use Rattle.cache_manager.specs.Pipeline.{refused_by, returned_of, cause_of}
use Rattle.caching.specs.declared.plan_call.RedisCachePlan.{RedisCachePlan}
use Rattle.caching.specs.Planned.{offset_of, refused_return, plan_return}
use Rattle.caching.proofs.plan_call.plan_return.Goals as goal

-- what an answer is returned as
abbrev returned : Result Written Cause → RedisCachePlan
returned r = plan_return (returned_of r)

-- a refusal is told by its number and its offset
told : (cause : Cause) → refused_return (number cause) (offset_of cause) ≡ plan_return (refused_by cause)
unfolding cause_of
told BadConfig = refl
told (BadRecord at) = refl
told TooLong = refl
told LateExpiry = refl
told ShortBuffer = refl
told BadReply = refl
told BadShape = refl
told ShortAnswer = refl
told BadArena = refl
told BadPlan = refl
told NoSpace = refl

pub returns-in-Ok : goal.returns-in-Ok
unfolding cause_of
returns-in-Ok c = sym (ap returned c.in-Ok.is)

pub returns-in-Err : goal.returns-in-Err
returns-in-Err c =
    c.refusal.ensures ∙ ap₂ refused_return c.from.ensures c.offset_of.ensures ∙ told _ ∙ sym (ap returned c.in-Err.is)
