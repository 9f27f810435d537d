-- What `same` of the source ensures is the test `same`. Assumes nothing.
use mathlib.Core.Path.{◌≡◌, refl, sym}
use mathlib.Core.Bool.{Bool, true, false, false≢true}
use Rattle.buffer.specs.Cases.{by_test}
use Rattle.buffer.specs.Same.{Bytes, same}
use Rattle.buffer.specs.SameLaws.{same_refl, same-eq}

-- an answer that is true exactly where two byte strings are equal is the test's
pub agrees : (a b : Bytes) (r : Bool) → (r ≡ true → a ≡ b) × (a ≡ b → r ≡ true) → r ≡ same a b
agrees a b true f = rw (f.0 refl) (sym (same_refl b))
agrees a b false f = by_test (same a b) (λ e. absurd (false≢true (f.1 (same-eq a b e)))) (λ e. sym e)
