-- `arena_check::few_distinct` meets its contract. The loop's invariant: none of the things so far has the key of one before it. Assumes nothing.
use mathlib.Core.Path.{refl, sym, ap, ◌∙◌}
use native.Mathlib.Omega.{arith}
use mathlib.Core.Bool.{true, false}
use Rattle.arena_check.specs.Walk.{nth}
use Rattle.arena_check.specs.Check.{key_in, next_in}
use Rattle.arena_check.specs.Chain.{keys_from}
use Rattle.arena_check.proofs.Laws.{nth-more}
use Rattle.arena_check.proofs.Chains.{stands_at, before-says, apart_more, twice-now}
use Rattle.arena_check.proofs.few_distinct.Goals as goal

pub loop-i-init : goal.loop-i-init
loop-i-init g c = (omega arith, unfold nth in refl, λ j k p q r. absurd (omega arith))

pub key_before-requires : goal.key_before-requires
key_before-requires g c =
    let a = c.args in
    let l = c.loop-i in (
      (λ k q. c.requires.0 k (omega arith)),
      stands_at g.T.Thing.HEAD g.T.Thing.REST a.s.now a.n a.first l.at l.i
          c.requires l.invariant.1 (omega arith),
      omega arith,
    )

pub returns-then-key_before : goal.returns-then-key_before
returns-then-key_before g c =
    let a = c.args in
    let l = c.loop-i in
    twice-now (keys_from g.T.Thing.HEAD g.T.Thing.REST a.s.now a.first) a.n l.i l.i
    (before-says (key_in g.T.Thing.HEAD a.s.now) (next_in g.T.Thing.HEAD g.T.Thing.REST a.s.now) a.first true l.i l.i l.at l.invariant.1
    (sym c.if-key_before.true ∙ c.key_before.ensures))
    (omega arith) (omega arith)

pub next_place-at-requires : goal.next_place-at-requires
next_place-at-requires g c =
    let a = c.args in
    let l = c.loop-i in
    let w = stands_at g.T.Thing.HEAD g.T.Thing.REST a.s.now a.n a.first l.at l.i c.requires l.invariant.1 (omega arith) in
    omega arith

pub loop-i-preserved : goal.loop-i-preserved
loop-i-preserved g c =
    let a = c.args in
    let l = c.loop-i in (
      omega arith,
      c.next_place-at.ensures ∙ ap (next_in g.T.Thing.HEAD g.T.Thing.REST a.s.now) l.invariant.1 ∙ sym (nth-more (next_in g.T.Thing.HEAD g.T.Thing.REST a.s.now) l.i a.first),
      apart_more (keys_from g.T.Thing.HEAD g.T.Thing.REST a.s.now a.first) a.n l.i l.i l.invariant.2
          (before-says (key_in g.T.Thing.HEAD a.s.now) (next_in g.T.Thing.HEAD g.T.Thing.REST a.s.now) a.first false l.i l.i l.at l.invariant.1
          (sym c.if-key_before.false ∙ c.key_before.ensures))
          (λ j p q. q),
    )

pub returns : goal.returns
returns g c = let l = c.loop-i in (λ j k p q r. l.invariant.2 j k p q (omega arith))
