-- `arena_check::other_tails` meets its contract: ranges that are the same have the same last eight bytes. Assumes nothing.
use mathlib.Core.Path.{sym, ◌∙◌}
use mathlib.Core.Bool.{false≢true}
use Prim.Native.Nat.{ℕ, ◌-◌}
use native.Mathlib.Omega.{arith}
use borrow.Author.Tests.{eqb-false, not-true}
use Rattle.buffer.specs.Part.{part}
use Rattle.buffer.specs.FieldLaws.{read-in-part, other-read}
use Rattle.arena_check.proofs.other_tails.Goals as goal

pub returns-then-n-lt8 : goal.returns-then-n-lt8
returns-then-n-lt8 c = λ e. absurd (false≢true e)

pub returns : goal.returns
returns c e =
    let a = c.args in
    let i : ℕ = a.n - 8 in
    let p = c.read_u64.ensures ∙ sym (read-in-part 8 a.s.now a.a a.n i (omega arith)) in
    let q = c.read_u64-2.ensures ∙ sym (read-in-part 8 a.s.now a.b a.n i (omega arith)) in
    other-read 8 (part a.s.now a.a a.n) (part a.s.now a.b a.n) i (λ z. eqb-false _ _ (not-true _ e) (p ∙ z ∙ sym q))
