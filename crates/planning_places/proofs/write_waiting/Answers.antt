-- `write_waiting` meets its contract: what is left is written behind what was. Assumes nothing.
use mathlib.Core.Path.{◌≡◌, subst, ◌∙◌}
use Prim.Native.Nat.{ℕ, suc, ◌+◌, ◌-◌}
use native.Mathlib.Omega.{arith}
use native.Mathlib.Numerals.{add-one}
use Rattle.buffer.specs.Copied.{copied-start}
use Rattle.planning_places.specs.Source as laws
use Rattle.planning_places.proofs.write_waiting.Goals as goal

pub loop-init : goal.loop-init
loop-init c =
    let z : c.args.n - 0 ≡ c.args.n = omega arith in
    rw z (let p = c.requires in (p.0, copied-start _ _ _ p.1))

pub place_at-here-requires : goal.place_at-here-requires
place_at-here-requires c =
    let n : ℕ = c.args.n - c.loop.counter in
    let q : n ≡ suc (n - 1) = omega arith in
    laws.one_in _ _ (n - 1)
    (subst (λ (k : ℕ). laws.KeysIn c.args.src.now c.loop.at k) q c.loop.invariant.0)

pub write_place-next-requires : goal.write_place-next-requires
write_place-next-requires c =
    let a = c.args in
    let n : ℕ = c.args.n - c.loop.counter in
    let m : ℕ = c.args.n - (c.loop.counter + 1) in
    let q : n ≡ m + 1 = omega arith in
    let s = c.place_at-here.ensures m
    (subst (λ (k : ℕ). laws.KeysIn a.src.now c.loop.at k) (q ∙ add-one m)
    c.loop.invariant.0) in (
      s.inside,
      laws.keys-room a.what a.src.now _ _ _ _ _ c.loop.at c.place_at-here.result n
          m q s c.loop.invariant.1,
    )

pub loop-preserved : goal.loop-preserved
loop-preserved c =
    let a = c.args in
    let n : ℕ = c.args.n - c.loop.counter in
    let m : ℕ = c.args.n - (c.loop.counter + 1) in
    let q : n ≡ m + 1 = omega arith in
    let s = c.place_at-here.ensures m
    (subst (λ (k : ℕ). laws.KeysIn a.src.now c.loop.at k) (q ∙ add-one m)
    c.loop.invariant.0) in (
      s.others,
      laws.keys_step a.what a.src.now _ _ _ _ _ c.loop.at
          c.place_at-here.result n m q s
          c.loop.invariant.1 _ _ c.write_place-next.ensures,
    )

pub shape_of-dst : goal.shape_of-dst
shape_of-dst c = c.loop.invariant.1.long

pub returns : goal.returns
returns c =
    let a = c.args in
    laws.keys-done a.what a.src.now _ _ _ _ _ c.loop.at (c.args.n - c.loop.counter) (omega arith) c.loop.invariant.1
