-- All elements of a list, and their bytes one after the other. Assumes nothing: these are definitions.
use Rattle.std.specs.Prelude.{Bool, List, [], ◌∷◌, ◌++◌, ℕ, ◌<◌, ltb}

-- the bytes of a list of things, one after the other
abbrev pub enc_all : {A : Type 0} → (A → List ℕ) → List A → List ℕ
enc_all enc [] = []
enc_all enc (x ∷ xs) = enc x ++ enc_all enc xs

-- everything in a list is good
abbrev pub All : {A : Type 0} → (A → Type 0) → List A → Type 0
All good [] = Unit {0}
All good (x ∷ xs) = good x × All good xs

-- ---- bytes

-- below 256
abbrev pub is_byte : ℕ → Bool
is_byte x = ltb x 256

abbrev pub Byte : ℕ → Type 0
Byte x = x < 256
