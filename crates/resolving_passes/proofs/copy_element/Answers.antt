-- `resolving_passes::copy_element` meets its contract. Assumes nothing.
use mathlib.Core.Path.{ap, ◌∙◌}
use Prim.Native.Nat.{◌+◌}
use lib.ListN.{length}
use Rattle.buffer.specs.Same.{Bytes}
use Rattle.buffer.specs.Part.{put}
use Rattle.resolving_passes.proofs.copy_element.Goals as goal

pub copy_to-requires : goal.copy_to-requires
copy_to-requires c = rw c.element_part-part.ensures.bytes c.requires.1

pub returns : goal.returns
returns c =
    let x = c.args in (
      ap (λ (b : Bytes). x.at + length b) c.element_part-part.ensures.bytes,
      c.copy_to.ensures
          ∙ ap (λ (b : Bytes). put x.out.now x.at b) c.element_part-part.ensures.bytes,
    )
