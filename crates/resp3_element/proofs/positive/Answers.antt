-- `resp3_element::positive` meets its contract. Assumes nothing.
use mir.Syntax.{w64}
use mir.ValLaws.{to_z_pos}
use Rattle.resp3_element.proofs.positive.Goals as goal

pub returns : goal.returns
returns c = to_z_pos w64 _ c.requires
