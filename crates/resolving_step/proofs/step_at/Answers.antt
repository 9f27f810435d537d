-- `resolving_step::step_at` meets its contract. Assumes nothing.
use Rattle.resolving_step.specs.Laws as laws
use Rattle.resolving_step.proofs.step_at.Goals as goal

pub on_node-requires : goal.on_node-requires
on_node-requires c =
    let a = c.requires.1 in
    let l = a.lists in
    record { es = a.es; rs = a.rs; lists = record { replies = l.replies; order = l.order; within = l.within; elements = l.elements } }

pub returns : goal.returns
returns c = laws.step-law _ _ _ _ _ _ _ c.node_at-n.ensures c.on_node.ensures
