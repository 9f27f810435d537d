-- `sharded_lru::invalidate_all` meets its contract. The loop's invariant: so many shards are empty, and n entries are dropped. Assumes nothing.
use mathlib.Core.Path.{refl, ap, ◌∙◌}
use native.Mathlib.Omega.{arith}
use Rattle.book.specs.Book.{row_entries}
use Rattle.sharded_lru.specs.Laws.{ends-within}
use Rattle.sharded_lru.proofs.Parts.{lent-holds}
use Rattle.sharded_lru.proofs.Clears.{cleared-here, clear_first, clear_next, clear-bound, clear-last}
use Rattle.sharded_lru.proofs.invalidate_all.Goals as goal

pub loop-i-init : goal.loop-i-init
loop-i-init c = (λ rows w. clear_first _ _ rows w, refl)

pub overflow_mul-from : goal.overflow_mul-from
overflow_mul-from c =
    let r = c.requires in
    let l = c.loop-i in
    let z = ends-within _ _ _ (l.invariant.0 r.rows r.lent).0 l.i c.loop-i-test.true in
    let b = r.lent.largest in
    let e = l.invariant.1 in
    omega arith

pub overflow_add-to : goal.overflow_add-to
overflow_add-to c =
    let r = c.requires in
    let l = c.loop-i in
    let z = ends-within _ _ _ (l.invariant.0 r.rows r.lent).0 l.i c.loop-i-test.true in
    let b = r.lent.largest in
    let e = l.invariant.1 in
    omega arith

pub slice_bounds-clear-start : goal.slice_bounds-clear-start
slice_bounds-clear-start c =
    let r = c.requires in
    let l = c.loop-i in
    let z = ends-within _ _ _ (l.invariant.0 r.rows r.lent).0 l.i c.loop-i-test.true in
    let b = r.lent.largest in
    let e = l.invariant.1 in
    omega arith

pub slice_bounds-clear-end : goal.slice_bounds-clear-end
slice_bounds-clear-end c =
    let r = c.requires in
    let l = c.loop-i in
    let z = ends-within _ _ _ (l.invariant.0 r.rows r.lent).0 l.i c.loop-i-test.true in
    let b = r.lent.largest in
    let e = l.invariant.1 in
    omega arith

pub clear-n-requires : goal.clear-n-requires
clear-n-requires c =
    let r = c.requires in
    let l = c.loop-i in
    record { row = _; holds = lent-holds _ _ _ (l.invariant.0 r.rows r.lent).0 l.i _ c.loop-i-test.true refl }

pub overflow_add-n : goal.overflow_add-n
overflow_add-n c =
    let r = c.requires in
    let l = c.loop-i in
    let i = l.invariant.0 r.rows r.lent in
    let d = (c.clear-n.ensures _ (lent-holds _ _ _ i.0 l.i _ c.loop-i-test.true refl)).1
    ∙ ap row_entries (cleared-here l.i r.rows) in
    let e = i.1 in
    let b = clear-bound _ _ r.rows r.lent l.i c.loop-i-test.true in
    omega arith

pub loop-i-preserved : goal.loop-i-preserved
loop-i-preserved c =
    let l = c.loop-i in
    let h = c.loop-i-test.true in (
      λ rows w.
          let i = l.invariant.0 rows w in
          let d = c.clear-n.ensures _ (lent-holds _ _ _ i.0 l.i _ h refl) in
          clear_next _ _ rows l.i _ _ _ _ _ i.0 i.1 h (omega arith) refl d.0 d.1,
      c.arena-1.given.1 ∙ l.invariant.1,
    )

pub returns : goal.returns
returns c rows w =
    let l = c.loop-i in
    let i = l.invariant.0 rows w in
    let k = c.loop-i-test.false in
    clear-last _ _ rows _ w l.i _ i.0 i.1 (omega arith)
