-- `served::write_served` meets its contract. Assumes nothing.
use mathlib.Core.Path.{ap, ap₂, ◌∙◌}
use Prim.Native.Nat.{ℕ, ◌+◌}
use lib.ListN.{length}
use Rattle.buffer.specs.Same.{Bytes}
use Rattle.buffer.specs.Part.{put}
use Rattle.config.specs.declared.CacheMode.TheVariants.{All}
use Rattle.resolving_walk.specs.Walk.{walk}
use Rattle.resolving_passes.specs.Passes.{answer_bytes}
use Rattle.caching_cmd.proofs.Listed as listed
use Rattle.served.proofs.write_served.Goals as goal

pub answer_pass-requires : goal.answer_pass-requires
answer_pass-requires c = (
  c.requires.0,
  listed.fine-same _ _ _ All 0 _ _ _ _
      c.write_result_head-at.ensures.0 c.answer-1.given
      c.requires.2,
)

pub returns : goal.returns
returns c =
    let w = c.write_result_head-at.ensures in
    λ ns es rs h.
    let z = c.answer_pass.ensures ns es rs h in
    let B : Bytes = answer_bytes (walk All 0 ns es rs) in
    (z.0 ∙ ap (λ (i : ℕ). i + length B) w.0, z.1 ∙ ap₂ (λ (s : Bytes) (i : ℕ). put s i B) w.1 w.0)
