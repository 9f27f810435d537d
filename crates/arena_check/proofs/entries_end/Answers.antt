-- `arena_check::entries_end` meets its contract. The loop's invariant: the entries walked so far. Assumes nothing.
use mathlib.Core.Path.{sym, ◌∙◌}
use native.Mathlib.Omega.{arith}
use mathlib.Core.Bool.{true, false}
use Rattle.resp3.specs.Ends.{is_value}
use Rattle.arena_check.specs.Check.{command_at, entry_next, entry_ok, entries_end}
use Rattle.arena_check.proofs.Laws.{entry-within}
use Rattle.arena_check.proofs.Walks.{walk_start, walk-done, walk_inside, walk-bad, walk-next, walk-failed, walk-answer}
use Rattle.arena_check.proofs.entries_end.Goals as goal

pub loop-init : goal.loop-init
loop-init c =
    let a = c.args in
    walk_start (entry_next a.s.now) (entry_ok is_value a.s.now a.end) a.end a.first a.n (omega arith)

pub entry_ok-requires : goal.entry_ok-requires
entry_ok-requires c = let w = c.loop.invariant in omega (arith, w.inside)

pub returns-then-not-entry_ok : goal.returns-then-not-entry_ok
unfolding entries_end
returns-then-not-entry_ok c =
    let a = c.args in
    let l = c.loop in
    sym (walk-failed (command_at a.s.now) (entry_next a.s.now) (entry_ok is_value a.s.now a.end) a.first a.n
    (walk-bad (entry_next a.s.now) (entry_ok is_value a.s.now a.end) a.end a.first a.n l.at l.counter l.invariant (omega arith)
    (sym c.entry_ok.ensures ∙ c.if-not-entry_ok.true)))

pub next_place-at-requires : goal.next_place-at-requires
next_place-at-requires c =
    let a = c.args in
    let l = c.loop in
    let q = entry-within is_value a.s.now a.end l.at (sym c.entry_ok.ensures ∙ c.if-not-entry_ok.false) in
    omega arith

pub loop-preserved : goal.loop-preserved
loop-preserved c =
    let a = c.args in
    let l = c.loop in
    let q = sym c.entry_ok.ensures ∙ c.if-not-entry_ok.false in
    walk-next (entry_next a.s.now) (entry_ok is_value a.s.now a.end) a.end a.first a.n l.at l.counter l.invariant (omega arith) q
    (entry-within is_value a.s.now a.end l.at q) _ c.next_place-at.ensures

pub distinct-requires : goal.distinct-requires
distinct-requires c =
    let a = c.args in
    let l = c.loop in
    let w = walk_inside (entry_next a.s.now) (entry_ok is_value a.s.now a.end) a.end a.first a.n l.at l.counter l.invariant (omega arith) in
    ((λ k q. let p = w k q in omega arith), omega arith, omega arith, omega arith)

pub returns-then-not-distinct : goal.returns-then-not-distinct
unfolding entries_end
returns-then-not-distinct c =
    let a = c.args in
    sym (walk-answer (command_at a.s.now) (entry_next a.s.now) (entry_ok is_value a.s.now a.end) a.first
    c.distinct.result false a.n c.if-not-distinct.true c.distinct.ensures)

pub returns : goal.returns
unfolding entries_end
returns c =
    let a = c.args in
    let l = c.loop in
    sym (walk-answer (command_at a.s.now) (entry_next a.s.now) (entry_ok is_value a.s.now a.end) a.first
    c.distinct.result true a.n c.if-not-distinct.false c.distinct.ensures
    ∙ walk-done (entry_next a.s.now) (entry_ok is_value a.s.now a.end) a.end a.first a.n l.at l.counter l.invariant (omega arith))
