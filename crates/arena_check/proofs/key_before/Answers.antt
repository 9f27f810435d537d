-- `arena_check::key_before` meets its contract. The loop's invariant: where the k-th thing stands, and that the search of what is left is the
-- whole search. Assumes nothing.
use mathlib.Core.Path.{refl, sym, ap, ◌∙◌, subst}
use Prim.Native.Nat.{ℕ, ◌+◌, ◌-◌, ◌≤◌}
use native.Mathlib.Omega.{arith}
use native.Mathlib.Nat.{sub-zero}
use lib.ListN.{length}
use Rattle.arena_check.specs.Walk.{nth, before}
use Rattle.arena_check.specs.Check.{key_in, next_in}
use Rattle.buffer.specs.Same.{Bytes}
use Rattle.arena_check.proofs.Laws.{same_keys, next_place, nth-more, before-hit, before_more, before-end}
use Rattle.arena_check.proofs.key_before.Goals.{In-loop}
use Rattle.arena_check.proofs.key_before.Given.{Over}
use Rattle.arena_check.proofs.key_before.Goals as goal

-- within the loop the thing at p is within s
turn : (g : Over) (c : In-loop g) → let a = c.args in
    next_in g.T.Thing.HEAD g.T.Thing.REST a.s.now c.loop.p ≤ length a.s.now
turn g c =
    let a = c.args in
    let l = c.loop in
    subst (λ (i : ℕ). next_in g.T.Thing.HEAD g.T.Thing.REST a.s.now i ≤ length a.s.now) (sym l.invariant.1)
    (c.requires.0 l.counter (omega arith))

pub loop-init : goal.loop-init
loop-init g c =
    let a = c.args in (
      omega arith,
      unfold nth in refl,
      ap (λ (i : ℕ). before (key_in g.T.Thing.HEAD a.s.now) (next_in g.T.Thing.HEAD g.T.Thing.REST a.s.now) i a.from a.at) (sym (sub-zero a.n)),
    )

pub read_u32-m-requires : goal.read_u32-m-requires
read_u32-m-requires g c = let h = g.T.Thing.in_head in let t = turn g (goal.at.read_u32-m-requires g c).In-loop in omega arith

pub overflow_cast-m : goal.overflow_cast-m
overflow_cast-m g c = let h = g.T.Thing.in_head in let t = turn g (goal.at.overflow_cast-m g c).In-loop in omega arith

pub overflow_add-p : goal.overflow_add-p
overflow_add-p g c = let h = g.T.Thing.in_head in let t = turn g (goal.at.overflow_add-p g c).In-loop in omega arith

pub same_part-requires : goal.same_part-requires
same_part-requires g c = let h = g.T.Thing.in_head in let t = turn g (goal.at.same_part-requires g c).In-loop in omega arith

pub returns-then-same_part : goal.returns-then-same_part
returns-then-same_part g c =
    let a = c.args in
    let l = c.loop in
    let hit =
    same_keys a.s.now g.T.Thing.HEAD l.p a.at _ _ _ _ _ (omega arith) (omega arith) c.read_u32-m.ensures
    c.read_u32-len.ensures c.same_part.ensures ∙ c.if-same_part.true in
    sym (l.invariant.2 ∙ before-hit (key_in g.T.Thing.HEAD a.s.now) (next_in g.T.Thing.HEAD g.T.Thing.REST a.s.now) a.n l.counter l.p a.at (omega arith) hit)

pub overflow_add-p-in-loop : goal.overflow_add-p-in-loop
overflow_add-p-in-loop g c = let h = g.T.Thing.in_head in let t = turn g (goal.at.overflow_add-p-in-loop g c).In-loop in omega arith

pub overflow_add-p-in-loop-2 : goal.overflow_add-p-in-loop-2
overflow_add-p-in-loop-2 g c = let h = g.T.Thing.in_head in let t = turn g (goal.at.overflow_add-p-in-loop-2 g c).In-loop in omega arith

pub overflow_add-p-in-loop-3 : goal.overflow_add-p-in-loop-3
overflow_add-p-in-loop-3 g c = let h = g.T.Thing.in_head in let t = turn g (goal.at.overflow_add-p-in-loop-3 g c).In-loop in omega arith

pub read_u32-requires : goal.read_u32-requires
read_u32-requires g c = let h = g.T.Thing.in_head in let t = turn g (goal.at.read_u32-requires g c).In-loop in omega arith

pub overflow_cast-p : goal.overflow_cast-p
overflow_cast-p g c = let h = g.T.Thing.in_head in let t = turn g (goal.at.overflow_cast-p g c).In-loop in omega arith

pub overflow_add-p-in-loop-4 : goal.overflow_add-p-in-loop-4
overflow_add-p-in-loop-4 g c = let h = g.T.Thing.in_head in let t = turn g (goal.at.overflow_add-p-in-loop-4 g c).In-loop in omega arith

pub loop-preserved : goal.loop-preserved
loop-preserved g c =
    let a = c.args in
    let l = c.loop in
    let other =
    same_keys a.s.now g.T.Thing.HEAD l.p a.at _ _ _ _ _ (omega arith) (omega arith) c.read_u32-m.ensures
    c.read_u32-len.ensures c.same_part.ensures ∙ c.if-same_part.false in
    let step = next_place a.s.now g.T.Thing.HEAD g.T.Thing.REST l.p _ _ _ _ (omega arith) c.read_u32-m.ensures c.read_u32.ensures (omega arith) in
    let next : ℕ → ℕ = next_in g.T.Thing.HEAD g.T.Thing.REST a.s.now in
    let key : ℕ → Bytes = key_in g.T.Thing.HEAD a.s.now in (
      omega arith,
      step ∙ ap next l.invariant.1 ∙ sym (nth-more next l.counter a.from),
      l.invariant.2 ∙ before_more key next a.n l.counter l.p a.at (omega arith) other
          ∙ ap (λ (i : ℕ). before key next (a.n - (l.counter + 1)) i a.at) (sym step),
    )

pub returns : goal.returns
returns g c =
    let a = c.args in
    let l = c.loop in
    sym (l.invariant.2 ∙ before-end (key_in g.T.Thing.HEAD a.s.now) (next_in g.T.Thing.HEAD g.T.Thing.REST a.s.now) a.n l.counter l.p a.at (omega arith))
