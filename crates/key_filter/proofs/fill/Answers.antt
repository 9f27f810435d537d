-- `key_filter::fill` meets its contract: shard by shard, with the bits of those passed set. Assumes nothing.
use mathlib.Core.Path.{refl, ◌∙◌}
use native.Mathlib.Omega.{arith}
use Rattle.sharded_lru.specs.Laws.{ends-within}
use Rattle.sharded_lru.proofs.Parts.{lent-holds}
use Rattle.key_filter.proofs.Paths.{marked_next, marked_all}
use Rattle.key_filter.proofs.fill.Goals as goal

pub loop-i-init : goal.loop-i-init
loop-i-init c = (λ rows w j l. absurd (omega arith), refl)

pub overflow_mul-from : goal.overflow_mul-from
overflow_mul-from c =
    let r = c.requires in
    let z = ends-within _ _ _ r.lent c.loop-i.i c.loop-i-test.true in
    let l = r.lent.largest in
    omega arith

pub overflow_add-to : goal.overflow_add-to
overflow_add-to c =
    let r = c.requires in
    let z = ends-within _ _ _ r.lent c.loop-i.i c.loop-i-test.true in
    let l = r.lent.largest in
    omega arith

pub slice_bounds-note_shard-start : goal.slice_bounds-note_shard-start
slice_bounds-note_shard-start c =
    let r = c.requires in
    let z = ends-within _ _ _ r.lent c.loop-i.i c.loop-i-test.true in
    let l = r.lent.largest in
    omega arith

pub slice_bounds-note_shard-end : goal.slice_bounds-note_shard-end
slice_bounds-note_shard-end c =
    let r = c.requires in
    let z = ends-within _ _ _ r.lent c.loop-i.i c.loop-i-test.true in
    let l = r.lent.largest in
    omega arith

pub note_shard-requires : goal.note_shard-requires
note_shard-requires c =
    record {
      row = _;
      holds = lent-holds _ _ _ c.requires.lent
          c.loop-i.i _ c.loop-i-test.true refl;
    }

pub loop-i-preserved : goal.loop-i-preserved
loop-i-preserved c =
    let l = c.loop-i in
    let e = c.note_shard.ensures in (
      marked_next _ _ _ _ l.i _ (omega arith) e.0
          (λ rows w. e.1 _ (lent-holds _ _ rows w l.i _ c.loop-i-test.true refl)) l.invariant.0,
      c.seen-1.given ∙ l.invariant.1,
    )

pub shape_of-seen : goal.shape_of-seen
shape_of-seen c = c.loop-i.invariant.1

pub returns : goal.returns
returns c = marked_all _ _ _ c.loop-i.i (omega arith) c.loop-i.invariant.0
