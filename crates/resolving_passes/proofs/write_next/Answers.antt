-- `resolving_passes::write_next` meets its contract. Assumes nothing.
use Rattle.resolving_passes.specs.Laws.{no-head}
use Rattle.resolving_passes.proofs.write_next.Goals as goal

pub copy_element-requires : goal.copy_element-requires
copy_element-requires c =
    let x = c.args in
    (c.requires.0, rw (no-head x.plan.now x.list.now x.next c.in_default.not-Head) at c.requires.1)

pub returns-in_default : goal.returns-in_default
returns-in_default c =
    let x = c.args in
    rw (no-head x.plan.now x.list.now x.next c.in_default.not-Head) c.copy_element.ensures

pub write_head-requires : goal.write_head-requires
write_head-requires c = (rw c.in-Head.is at c.requires).1

pub returns : goal.returns
returns c = rw c.in-Head.is c.write_head.ensures
