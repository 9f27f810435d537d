-- What it means that a value is complete in bytes received so far, or begins with them, within the limits of 16 MiB and 16 levels. Assumes nothing: these
-- are the definitions that a reader has to believe, with those of resp3's Value.antt.
use Rattle.std.specs.Prelude.{◌≡◌, ◌++◌, ℕ, ◌≤◌, length}
use Rattle.buffer.specs.Same.{Bytes}
use Rattle.config.specs.Limits.{max_bytes, max_depth}
use Rattle.resp3.specs.Value.{Value, Valid, depth, encode}

-- a value within the limits
pub record Within (v : Value) : Type 0 where
  pub ok : Valid v
  pub deep : depth v ≤ max_depth
  pub small : length (encode v) ≤ max_bytes

-- the first n bytes of s are a value
pub record Complete (s : Bytes) (n : ℕ) : Type 0 where
  pub v : Value
  pub within : Within v
  pub rest : Bytes
  pub is : s ≡ encode v ++ rest
  pub long : length (encode v) ≡ n

-- s is the beginning of a value that has k bytes more
pub record Begins (s : Bytes) (k : ℕ) : Type 0 where
  pub v : Value
  pub within : Within v
  pub rest : Bytes
  pub is : encode v ≡ s ++ rest
  pub long : length rest ≡ k

-- no value is complete in s
abbrev pub NoneComplete : Bytes → Type 0
NoneComplete s = (n : ℕ) → Complete s n → ⊥

-- no value begins with s
abbrev pub NoneBegins : Bytes → Type 0
NoneBegins s = (k : ℕ) → Begins s k → ⊥
