-- `cursor::next_arg` meets its contract. Assumes nothing.
use native.Mathlib.Omega.{arith}
use Rattle.cursor.specs.Steps as laws
use borrow.Author.Tests.{eq-eqb, ne_eqb}
use Rattle.cursor.proofs.next_arg.Goals as goal

pub returns-then-k-eq0 : goal.returns-then-k-eq0
returns-then-k-eq0 c = rw (eq-eqb _ 0 c.if-k-eq0.true)

pub overflow_add-start : goal.overflow_add-start
overflow_add-start c = let i = (laws.in-first _ _ _ c.if-k-eq0.false c.requires).room in omega arith

pub overflow_add-at : goal.overflow_add-at
overflow_add-at c = let i = (laws.in-first _ _ _ c.if-k-eq0.false c.requires).room in omega arith

pub read_u32-requires : goal.read_u32-requires
read_u32-requires c = let i = (laws.in-first _ _ _ c.if-k-eq0.false c.requires).room in omega arith

pub overflow_add-end : goal.overflow_add-end
overflow_add-end c = let i = (laws.in-first _ _ _ c.if-k-eq0.false c.requires).inside in let e = c.read_u32.ensures in omega arith

pub bounds-s-at : goal.bounds-s-at
bounds-s-at c = let i = (laws.in-first _ _ _ c.if-k-eq0.false c.requires).room in omega arith

pub returns-then-s-at-eq0 : goal.returns-then-s-at-eq0
returns-then-s-at-eq0 c = rw (ne_eqb _ 0 c.if-k-eq0.false, eq-eqb _ 0 c.if-s-at-eq0.true, c.read_u32.ensures)

pub returns-else-s-at-eq0 : goal.returns-else-s-at-eq0
returns-else-s-at-eq0 c = rw (ne_eqb _ 0 c.if-k-eq0.false, ne_eqb _ 0 c.if-s-at-eq0.false, c.read_u32.ensures)
