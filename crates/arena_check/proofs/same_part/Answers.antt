-- `arena_check::same_part` meets its contract: ranges of other lengths differ, and the slices that are compared are the parts. Assumes nothing.
use mathlib.Core.Path.{◌≡◌, sym, ap, ◌∙◌}
use Prim.Native.Nat.{ℕ, ◌+◌, ◌-◌}
use native.Mathlib.Omega.{arith}
use Rattle.buffer.specs.Same.{same}
use Rattle.buffer.specs.SameLaws.{same_length}
use Rattle.buffer.specs.Part.{part}
use Rattle.buffer.specs.PartLaws.{length_part}
use Rattle.arena_check.proofs.same_part.Goals as goal

pub returns-then-n-m : goal.returns-then-n-m
returns-then-n-m c =
    let a = c.args in
    let x = length_part a.s.now a.a a.n (omega arith) in
    let y = length_part a.s.now a.b a.m (omega arith) in
    sym (same_length _ _ (λ e. c.if-n-m.true (omega arith)))

pub returns-then-other_tails : goal.returns-then-other_tails
returns-then-other_tails c =
    let a = c.args in
    let other = c.other_tails.ensures c.if-other_tails.true in
    sym (ap (λ (k : ℕ). same (part a.s.now a.a a.n) (part a.s.now a.b k)) (sym c.if-n-m.false) ∙ other)

pub returns : goal.returns
unfolding part
returns c =
    let a = c.args in
    let x : a.a + a.n - a.a ≡ a.n = omega arith in
    let y : a.b + a.m - a.b ≡ a.m = omega arith in
    rw (x, y) at c.same.ensures
