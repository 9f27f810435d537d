-- `packs_count` meets its contract, case by case. Assumes nothing.
use mathlib.Core.Path.{sym, ap, subst}
use native.Mathlib.Omega.{arith}
use Rattle.planning_outcome.specs.declared.CacheableCommand.{CacheableCommand}
use Rattle.planning_send_len.specs.Counts as counts
use Rattle.planning_send_len.proofs.packs_count.Goals as goal

pub overflow_add-result : goal.overflow_add-result
overflow_add-result c = let f = subst (λ (z : CacheableCommand). counts.CommandFew z) c.in-Multiple.is c.requires in omega arith

pub returns-in-Single : goal.returns-in-Single
returns-in-Single c = (ap counts.packs_count (sym c.in-Single.is), omega arith)

pub returns-in-Multiple : goal.returns-in-Multiple
returns-in-Multiple c =
    let f = subst (λ (z : CacheableCommand). counts.CommandFew z) c.in-Multiple.is c.requires in
    (ap counts.packs_count (sym c.in-Multiple.is), omega arith)
