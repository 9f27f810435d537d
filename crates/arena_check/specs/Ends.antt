-- The test of where things end, both ways. Assumes nothing.
use Rattle.std.specs.Prelude.{◌≡◌, ℕ, true, Option, Some, None}
use Rattle.std.proofs.Math.Path.{refl, ap}
use Rattle.std.proofs.Common.{◌∙◌}
use Rattle.std.proofs.lemmas.Bool.{false≢true}
use borrow.Author.Tests.{eqb-true, eq-eqb}
use Rattle.arena_check.specs.Check.{ends}

pub ends-true : (e : Option ℕ) (at : ℕ) → ends e at ≡ true → e ≡ Some at
ends-true None at q = absurd (false≢true q)
ends-true (Some x) at q = ap Some (eqb-true x at q)

pub true-ends : (e : Option ℕ) (at : ℕ) → e ≡ Some at → ends e at ≡ true
true-ends e at q = ap (λ (z : Option ℕ). ends z at) q ∙ eq-eqb at at refl
