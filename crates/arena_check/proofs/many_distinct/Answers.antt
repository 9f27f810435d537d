-- `arena_check::many_distinct` meets its contract. The loop's invariant: the things of the blocks so far are apart from all behind them. Assumes nothing.
use mathlib.Core.Path.{sym, subst}
use mathlib.Core.Bool.{Bool}
use native.Mathlib.Omega.{arith}
use Rattle.arena_check.specs.Check.{next_in}
use Rattle.arena_check.specs.Chain.{keys_from, Answers, Chained}
use Rattle.arena_check.proofs.Blocks.{chained-answers, nth-none, left-stands, left-twice, left-apart, left-place}
use Rattle.arena_check.proofs.many_distinct.Goals as goal

pub few_distinct-requires : goal.few_distinct-requires
few_distinct-requires g c = c.requires

pub returns-then-n-lt8 : goal.returns-then-n-lt8
returns-then-n-lt8 g c = c.few_distinct.ensures

pub block-requires : goal.block-requires
block-requires g c = (c.requires, omega arith, omega arith, omega arith, omega arith, omega arith)

pub returns-then-n-le64 : goal.returns-then-n-le64
returns-then-n-le64 g c =
    let a = c.args in
    subst (λ (r : Bool). Answers (keys_from g.T.Thing.HEAD g.T.Thing.REST a.s.now a.first) r a.n a.n) (sym c.is_some.ensures)
    (chained-answers g.T.Thing.HEAD g.T.Thing.REST a.s.now a.first a.n c.block.result c.block.ensures)

pub returns-then-n-le512 : goal.returns-then-n-le512
returns-then-n-le512 g c =
    let a = c.args in
    subst (λ (r : Bool). Answers (keys_from g.T.Thing.HEAD g.T.Thing.REST a.s.now a.first) r a.n a.n) (sym c.is_some-then-n-le512.ensures)
    (chained-answers g.T.Thing.HEAD g.T.Thing.REST a.s.now a.first a.n c.block-then-n-le512.result c.block-then-n-le512.ensures)

pub loop-left-init : goal.loop-left-init
loop-left-init g c =
    let a = c.args in
    (omega arith, nth-none (next_in g.T.Thing.HEAD g.T.Thing.REST a.s.now) a.first _ (omega arith), λ j k p q r. absurd (omega arith))

pub block-requires-in-loop-left : goal.block-requires-in-loop-left
block-requires-in-loop-left g c =
    let a = c.args in
    let l = c.loop-left in (
      left-stands g.T.Thing.HEAD g.T.Thing.REST a.s.now a.first a.n l.left l.at c.min-m.result l.invariant.0 l.invariant.1
          c.requires,
      omega (arith, c.min-m.ensures),
      omega (arith, c.min-m.ensures),
      omega arith,
      omega arith,
      omega arith,
    )

pub returns-in_default : goal.returns-in_default
returns-in_default g c =
    let a = c.args in
    let l = c.loop-left in
    left-twice g.T.Thing.HEAD g.T.Thing.REST a.s.now a.first a.n l.left l.at c.min-m.result l.invariant.0 l.invariant.1
    (subst (Chained g.T.Thing.HEAD g.T.Thing.REST a.s.now l.at c.min-m.result l.left) c.in_default.is c.block-in-loop-left.ensures)

pub loop-left-smaller : goal.loop-left-smaller
loop-left-smaller g c = omega (arith, c.min-m.ensures)

pub loop-left-preserved : goal.loop-left-preserved
loop-left-preserved g c =
    let a = c.args in
    let l = c.loop-left in
    let m = c.min-m.result in
    let found = subst (Chained g.T.Thing.HEAD g.T.Thing.REST a.s.now l.at m l.left) c.in-Some.is c.block-in-loop-left.ensures in (
      omega arith,
      left-place g.T.Thing.HEAD g.T.Thing.REST a.s.now a.first a.n l.left l.at m l.invariant.0 l.invariant.1 _ (omega (arith, c.min-m.ensures))
          found.0,
      left-apart g.T.Thing.HEAD g.T.Thing.REST a.s.now a.first a.n l.left l.at m l.invariant.0 l.invariant.1 (omega (arith, c.min-m.ensures)) l.invariant.2
          found.1,
    )

pub returns : goal.returns
returns g c = let l = c.loop-left in (λ j k p q r. l.invariant.2 j k (omega arith) q r)
