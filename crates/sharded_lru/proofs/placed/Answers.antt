-- `sharded_lru::placed` meets its contract. Assumes nothing.
use mathlib.Core.Path.{sym, ap, subst}
use native.Mathlib.Omega.{arith}
use Rattle.sharded_lru.specs.Placed.{placed_at, Within}
use Rattle.sharded_lru.proofs.placed.Goals as goal

pub overflow_add-result : goal.overflow_add-result
overflow_add-result c =
    let w = subst (Within c.args.size) c.in-Hit.is c.requires.1 in
    let a = w.0 in
    let b = w.1 in
    omega arith

pub overflow_add-result-in-Hit : goal.overflow_add-result-in-Hit
overflow_add-result-in-Hit c =
    let w = subst (Within c.args.size) c.in-Hit.is c.requires.1 in
    let b = w.1 in
    omega arith

pub returns-in-Hit : goal.returns-in-Hit
returns-in-Hit c = sym (ap (placed_at c.args.start) c.in-Hit.is)

pub returns-in-Miss : goal.returns-in-Miss
returns-in-Miss c = sym (ap (placed_at c.args.start) c.in-Miss.is)
