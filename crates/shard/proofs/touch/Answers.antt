-- `touch` meets its contract: the rotation of `brought-forward`. Assumes nothing.
use native.Mathlib.Omega.{arith}
use mathlib.Core.Path.{◌∙◌}
use Rattle.shard.proofs.Fields.{fields}
use Rattle.shard.proofs.Edits.{brought-forward}
use Rattle.shard.proofs.touch.Goals as goal

pub overflow_add-end : goal.overflow_add-end
overflow_add-end c =
    let w = c.requires in
    let f = fields w.stands in
    let e = c.item_len.ensures w.front w.back w.item w.stands in
    omega arith

pub rotate-requires : goal.rotate-requires
rotate-requires c =
    let w = c.requires in
    let f = fields w.stands in
    let e = c.item_len.ensures w.front w.back w.item w.stands in
    omega arith

pub returns : goal.returns
returns c front back it w = c.rotate.ensures ∙ brought-forward w _ (c.item_len.ensures front back it w)
