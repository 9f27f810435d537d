-- Case analysis on a test, with its equation at hand. What the tests of two numbers say is in the kit (borrow.Author.Tests). Assumes nothing.
use Rattle.std.specs.Prelude.{◌≡◌, refl, ℕ, Bool, true, false, eqb}
use Rattle.std.proofs.Common.{eq-eqb}

-- both cases of a test, each with its equation
pub by_test {ℓ} : {X : Type ℓ} (b : Bool) → (b ≡ true → X) → (b ≡ false → X) → X
by_test true f g = f refl
by_test false f g = g refl

-- the test finds a number equal to itself
pub eqb_same : (n : ℕ) → eqb n n ≡ true
eqb_same n = eq-eqb n n refl
