-- `arena_check::in_chain` meets its contract. The loop's invariant: the things of the chain behind c do not have the key. Assumes nothing.
use mathlib.Core.Path.{refl, ◌∙◌, subst}
use Prim.Native.Nat.{ℕ, ◌-◌}
use native.Mathlib.Omega.{arith}
use mathlib.Core.Bool.{true, false}
use Rattle.buffer.specs.Same.{Bytes}
use Rattle.arena_check.specs.Check.{key_in}
use Rattle.arena_check.specs.Chain.{Latest}
use Rattle.arena_check.proofs.Laws.{same_keys}
use Rattle.arena_check.proofs.Chains.{left-start, left-next, left-hit, left-none, followed, compared}
use Rattle.arena_check.proofs.in_chain.Goals as goal

pub loop-c-init : goal.loop-c-init
loop-c-init g c =
    let a = c.args in
    (omega arith, λ mark keys k w o. left-start mark keys (key_in g.T.Thing.HEAD a.s.now a.at) k a.last o)

pub offset_bounds-place-c : goal.offset_bounds-place-c
offset_bounds-place-c g c = omega (arith, c.requires.0.few)

pub bounds-place-c : goal.bounds-place-c
bounds-place-c g c = omega (arith, c.requires.0.places)

pub read_u32-m-requires : goal.read_u32-m-requires
read_u32-m-requires g c =
    let a = c.args in
    let l = c.loop-c in
    let w = g.T.Thing.in_head in
    let t = followed g.T.Thing.HEAD a.s.now a.place.now a.prev.now a.last l.c _
    c.requires.0 (omega arith) (omega arith) refl in
    omega arith

pub overflow_cast-m : goal.overflow_cast-m
overflow_cast-m g c =
    let a = c.args in
    let l = c.loop-c in
    let w = g.T.Thing.in_head in
    let t = followed g.T.Thing.HEAD a.s.now a.place.now a.prev.now a.last l.c _
    c.requires.0 (omega arith) (omega arith) refl in
    omega arith

pub overflow_add-p : goal.overflow_add-p
overflow_add-p g c =
    let a = c.args in
    let l = c.loop-c in
    let w = g.T.Thing.in_head in
    let t = followed g.T.Thing.HEAD a.s.now a.place.now a.prev.now a.last l.c _
    c.requires.0 (omega arith) (omega arith) refl in
    omega arith

pub same_part-requires : goal.same_part-requires
same_part-requires g c =
    let a = c.args in
    let l = c.loop-c in
    let w = g.T.Thing.in_head in
    let t = followed g.T.Thing.HEAD a.s.now a.place.now a.prev.now a.last l.c _
    c.requires.0 (omega arith) (omega arith) refl in
    omega arith

pub returns-then-same_part : goal.returns-then-same_part
returns-then-same_part g c =
    let a = c.args in
    let l = c.loop-c in
    let x : Bytes = key_in g.T.Thing.HEAD a.s.now a.at in
    let test = same_keys a.s.now g.T.Thing.HEAD _ a.at _ _ _ _ _ (omega arith) (omega arith) c.read_u32-m.ensures
    c.read_u32-len.ensures c.same_part.ensures ∙ c.if-same_part.true in
    λ mark keys k w o.
    let left = l.invariant.1 mark keys k w o in
    left-hit mark keys x k l.c left (omega arith)
    (compared mark keys (key_in g.T.Thing.HEAD a.s.now) a.place.now a.prev.now k l.c _ x true w (omega arith) left.low
    refl test)

pub offset_bounds-prev-c : goal.offset_bounds-prev-c
offset_bounds-prev-c g c = omega (arith, c.requires.0.few)

pub bounds-prev-c : goal.bounds-prev-c
bounds-prev-c g c = omega (arith, c.requires.0.links)

pub loop-c-smaller : goal.loop-c-smaller
loop-c-smaller g c =
    let l = c.loop-c in
    let b = c.requires.0.back (l.c - 1) (omega arith) in
    omega arith

pub loop-c-preserved : goal.loop-c-preserved
loop-c-preserved g c =
    let a = c.args in
    let l = c.loop-c in
    let x : Bytes = key_in g.T.Thing.HEAD a.s.now a.at in
    let test = same_keys a.s.now g.T.Thing.HEAD _ a.at _ _ _ _ _ (omega arith) (omega arith)
    c.read_u32-m.ensures
    c.read_u32-len.ensures c.same_part.ensures
    ∙ c.if-same_part.false in
    let b = c.requires.0.back (l.c - 1)
    (omega arith) in (
      omega arith,
      λ mark keys k w o.
          let left = l.invariant.1 mark keys k w o in
          let low = left.low in
          left-next mark keys x k l.c _ left (omega arith)
          (subst (λ (q : ℕ). Latest mark keys (mark (keys (l.c - 1))) q (l.c - 1)) refl (w.links (l.c - 1) (omega arith)))
          (compared mark keys (key_in g.T.Thing.HEAD a.s.now) a.place.now a.prev.now k l.c _ x false w (omega arith) low
          refl test),
    )

pub returns : goal.returns
returns g c =
    let a = c.args in
    let l = c.loop-c in
    λ mark keys k w o. left-none mark keys (key_in g.T.Thing.HEAD a.s.now a.at) k l.c (l.invariant.1 mark keys k w o) (omega arith)
