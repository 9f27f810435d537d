-- Byte strings as lists of numbers, and the test whether two are equal. Assumes nothing: these are definitions.
use Rattle.std.specs.Prelude.{ℕ, Bool, true, false, cond, List, [], ◌∷◌, eqb}

-- a byte string; each of its numbers is below 256 where it is read from a slice
abbrev pub Bytes : Type 0
Bytes = List ℕ

-- whether two byte strings have the same bytes
unfoldable pub same : Bytes → Bytes → Bool
same [] [] = true
same [] (y ∷ ys) = false
same (x ∷ xs) [] = false
same (x ∷ xs) (y ∷ ys) = cond (eqb x y) (same xs ys) false
