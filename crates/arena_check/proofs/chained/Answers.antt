-- `arena_check::chained` meets its contract. The loop's invariant: of the things so far those among the first m are chained, and none has the key of one of
-- the first m before it. Assumes nothing.
use mathlib.Core.Path.{◌≡◌, refl, sym, ap, ◌∙◌, subst}
use Prim.Native.Nat.{ℕ, ◌+◌, ◌≤◌}
use native.Mathlib.Omega.{arith}
use mathlib.Core.Bool.{Bool, true, false}
use lib.ListN.{length, length-set}
use Rattle.arena_check.specs.Home.{mark_of}
use Rattle.arena_check.specs.Walk.{nth}
use Rattle.arena_check.specs.Check.{key_in, next_in}
use Rattle.arena_check.specs.Chain.{keys_from, Among}
use Rattle.arena_check.proofs.Laws.{nth-more}
use Rattle.arena_check.proofs.Chains.{stands_at, apart_more, twice-now, Chaining, chaining-none, chaining-more, chaining-linked, chain-says}
use Rattle.arena_check.proofs.Blocks.{nth-none}
use Rattle.arena_check.proofs.chained.Goals.{After-in_chain, In-loop-i}
use Rattle.arena_check.proofs.chained.Invariants.{among}
use Rattle.arena_check.proofs.chained.Given.{Over}
use Rattle.arena_check.proofs.chained.Goals as goal

-- within the loop the thing at `at` is within the bytes
inside : (g : Over) (c : In-loop-i g) → let a = c.args in
    next_in g.T.Thing.HEAD g.T.Thing.REST a.s.now c.loop-i.at ≤ length a.s.now
inside g c =
    let a = c.args in
    let l = c.loop-i in
    stands_at g.T.Thing.HEAD g.T.Thing.REST a.s.now a.n a.first l.at l.i c.requires.0 l.invariant.1 (omega arith)

-- what was found in its chain says whether its key is one of the first m before it
found : (b : Bool) (g : Over) (c : After-in_chain g) → c.in_chain.result ≡ b → let at = c in
    let a = c.args in
    let keys = keys_from g.T.Thing.HEAD g.T.Thing.REST a.s.now a.first in
    Among keys b (among a.m c.loop-i.i) (keys c.loop-i.i)
found b g c e =
    let at = c in
    let a = c.args in
    let l = c.loop-i in
    let marked = c.mark_at-mark.ensures in
    chain-says _ _ g.T.Thing.HEAD g.T.Thing.REST a.s.now a.first a.m l.last l.prev l.place (among a.m l.i) l.i l.at _ _ _ b
    l.invariant.3 l.invariant.1 marked.0 marked.1 refl c.in_chain.ensures e

pub loop-i-init : goal.loop-i-init
loop-i-init g c =
    let a = c.args in
    let next : ℕ → ℕ = next_in g.T.Thing.HEAD g.T.Thing.REST a.s.now in
    let e : 0 ≡ among a.m 0 = omega arith in (
      omega arith,
      unfold nth in refl,
      nth-none next a.first _ e,
      subst (Chaining (mark_of a.top) a.top (key_in g.T.Thing.HEAD a.s.now) next a.first a.m _ _ _) e
          (chaining-none (mark_of a.top) a.top (key_in g.T.Thing.HEAD a.s.now) next a.first a.m _ _ _ c.requires.3),
      λ j k p q r. absurd (omega arith),
      refl,
      refl,
      refl,
    )

pub mark_at-mark-requires : goal.mark_at-mark-requires
mark_at-mark-requires g c = let t = inside g (goal.at.mark_at-mark-requires g c).In-loop-i in omega arith

pub offset_bounds-last-mark : goal.offset_bounds-last-mark
offset_bounds-last-mark g c = omega (arith, c.mark_at-mark.ensures.1)

pub bounds-last-mark : goal.bounds-last-mark
bounds-last-mark g c = let w = c.loop-i.invariant.3.marked in omega (arith, c.mark_at-mark.ensures.1)

pub in_chain-requires : goal.in_chain-requires
in_chain-requires g c =
    let a = c.args in
    let l = c.loop-i in
    let t = inside g (goal.at.in_chain-requires g c).In-loop-i in
    let mark = c.mark_at-mark in
    let w = chaining-linked _ _ g.T.Thing.HEAD g.T.Thing.REST a.s.now a.first a.n a.m l.last l.prev l.place (among a.m l.i)
    mark.result _ l.invariant.3 c.requires.0.0 (omega arith) (omega arith) (omega arith) mark.ensures.1 refl in
    (w, omega arith, omega arith)

pub shape_of-last-then-in_chain : goal.shape_of-last-then-in_chain
shape_of-last-then-in_chain g c = c.loop-i.invariant.5

pub shape_of-prev-then-in_chain : goal.shape_of-prev-then-in_chain
shape_of-prev-then-in_chain g c = c.loop-i.invariant.6

pub shape_of-place-then-in_chain : goal.shape_of-place-then-in_chain
shape_of-place-then-in_chain g c = c.loop-i.invariant.7

pub returns-then-in_chain : goal.returns-then-in_chain
returns-then-in_chain g c =
    let a = c.args in
    let l = c.loop-i in
    twice-now (keys_from g.T.Thing.HEAD g.T.Thing.REST a.s.now a.first) a.n l.i (among a.m l.i) (found true g (goal.at.returns-then-in_chain g c).After-in_chain c.if-in_chain.true) (omega arith)
    (omega arith)

pub next_place-at-requires : goal.next_place-at-requires
next_place-at-requires g c = let t = inside g (goal.at.next_place-at-requires g c).In-loop-i in omega arith

pub overflow_cast-place : goal.overflow_cast-place
overflow_cast-place g c = let t = inside g (goal.at.overflow_cast-place g c).In-loop-i in omega arith

pub bounds-place-i : goal.bounds-place-i
bounds-place-i g c = omega (arith, c.loop-i.invariant.3.placed)

pub bounds-prev-i : goal.bounds-prev-i
bounds-prev-i g c = omega (arith, c.loop-i.invariant.3.linked)

pub loop-i-preserved-then-m-i : goal.loop-i-preserved-then-m-i
loop-i-preserved-then-m-i g c =
    let a = c.args in
    let l = c.loop-i in
    let next : ℕ → ℕ = next_in g.T.Thing.HEAD g.T.Thing.REST a.s.now in
    let stays : among a.m l.i ≡ among a.m (l.i + 1) = omega arith in (
      omega arith,
      c.next_place-at.ensures ∙ ap next l.invariant.1 ∙ sym (nth-more next l.i a.first),
      l.invariant.2 ∙ ap (λ (j : ℕ). nth next j a.first) stays,
      subst (Chaining (mark_of a.top) a.top (key_in g.T.Thing.HEAD a.s.now) next a.first a.m l.last l.prev l.place) stays l.invariant.3,
      apart_more (keys_from g.T.Thing.HEAD g.T.Thing.REST a.s.now a.first) a.m l.i _ l.invariant.4
          (found false g (goal.at.loop-i-preserved-then-m-i g c).After-in_chain c.if-in_chain.false) (λ j p q. omega arith),
      l.invariant.5,
      l.invariant.6,
      l.invariant.7,
    )

-- a thing more, among the first m
pub loop-i-preserved : goal.loop-i-preserved
loop-i-preserved g c =
    let a = c.args in
    let l = c.loop-i in
    let marked = c.mark_at-mark.ensures in
    let next : ℕ → ℕ = next_in g.T.Thing.HEAD g.T.Thing.REST a.s.now in
    let before : among a.m l.i ≡ l.i = omega arith in
    let since : l.i + 1 ≡ among a.m (l.i + 1) = omega arith in
    let to = c.next_place-at.ensures ∙ ap next l.invariant.1 ∙ sym (nth-more next l.i a.first) in
    let chains = subst (Chaining (mark_of a.top) a.top (key_in g.T.Thing.HEAD a.s.now) next a.first a.m l.last l.prev l.place)
    before l.invariant.3 in (
      omega arith,
      to,
      to ∙ ap (λ (j : ℕ). nth next j a.first) since,
      subst (Chaining (mark_of a.top) a.top (key_in g.T.Thing.HEAD a.s.now) next a.first a.m _ _ _) since
          (chaining-more _ _ (key_in g.T.Thing.HEAD a.s.now) next a.first a.m l.last l.prev l.place l.i chains l.at _ (omega arith)
          l.invariant.1 (marked.0 ∙ ap (λ (j : ℕ). mark_of a.top (key_in g.T.Thing.HEAD a.s.now j)) l.invariant.1) marked.1),
      apart_more (keys_from g.T.Thing.HEAD g.T.Thing.REST a.s.now a.first) a.m l.i _ l.invariant.4
          (found false g (goal.at.loop-i-preserved g c).After-in_chain c.if-in_chain.false) (λ j p q. omega arith),
      length-set l.last _ _ ∙ l.invariant.5,
      length-set l.prev _ _ ∙ l.invariant.6,
      length-set l.place _ _ ∙ l.invariant.7,
    )

pub shape_of-last : goal.shape_of-last
shape_of-last g c = c.loop-i.invariant.5

pub shape_of-prev : goal.shape_of-prev
shape_of-prev g c = c.loop-i.invariant.6

pub shape_of-place : goal.shape_of-place
shape_of-place g c = c.loop-i.invariant.7

pub returns : goal.returns
returns g c =
    let a = c.args in
    let l = c.loop-i in
    let all : among a.m l.i ≡ a.m = omega arith in
    (l.invariant.2 ∙ ap (λ (j : ℕ). nth (next_in g.T.Thing.HEAD g.T.Thing.REST a.s.now) j a.first) all, λ j k p q r. l.invariant.4 j k p q (omega arith))
