-- Bytes that are the beginning of a valid value's. Assumes nothing: this is a definition.
use Rattle.std.specs.Prelude.{◌≡◌, List, ◌++◌, ℕ}

-- s is the beginning of a valid value's bytes
pub record Begins {A : Type 0} (enc : A → List ℕ) (valid : A → Type 0) (s : List ℕ) : Type 0 where
  pub value : A
  pub rest : List ℕ
  pub fine : valid value
  pub bytes : enc value ≡ s ++ rest
