-- `caching_cmd::write_result` meets its contract. Assumes nothing.
use Rattle.caching_cmd.proofs.Listed as listed
use mathlib.Core.Path.{ap, ap₂, ◌∙◌}
use Prim.Native.Nat.{ℕ, ◌+◌}
use lib.ListN.{length}
use Rattle.buffer.specs.Same.{Bytes}
use Rattle.buffer.specs.Part.{put}
use Rattle.resolving_walk.specs.Walk.{walk}
use Rattle.resolving_passes.specs.Passes.{answer_bytes}
use Rattle.caching_cmd.specs.Call.{answered_with}
use Rattle.caching_cmd.proofs.write_result.Goals as goal

pub answer_pass-end-requires : goal.answer_pass-end-requires
answer_pass-end-requires c =
    let x = c.args in (
      c.requires.0,
      listed.fine-same _ _ _ x.g.mode x.clock _ _ _ _ c.write_result_head-at.ensures.0
          c.answer-1.given c.requires.2,
    )

pub returns : goal.returns
returns c =
    let x = c.args in
    let w = c.write_result_head-at.ensures in
    λ ns es rs h.
    let z = c.answer_pass-end.ensures ns es rs h in
    let B : Bytes = answer_bytes (walk x.g.mode x.clock ns es rs) in (
      ap (λ (i : ℕ). answered_with i x.refused) (z.0 ∙ ap (λ (i : ℕ). i + length B) w.0),
      z.1 ∙ ap₂ (λ (s : Bytes) (i : ℕ). put s i B) w.1 w.0,
    )
