-- Formats: what bytes a value is written as, how bytes are read as a value, and the first byte that no value allows. Formats are
-- put together from single bytes; their laws are proved once for each way of putting them together. Assumes nothing.
use Rattle.std.proofs.Math.Path.{◌≡◌, refl}
use Rattle.std.specs.Prelude.{Bool, true, cond, ℕ, ◌+◌, ◌<◌, length, take}
use mathlib.Core.List.{List, [], ◌∷◌, ◌++◌}
use Rattle.std.proofs.Common.{arith}
use Rattle.buffer.specs.Cases.{by_test}
use Rattle.format.specs.Begins.{Begins}

-- a value and what follows it; or the first byte that no value allows; or the bytes end before the value does
pub data Read (A : Type 0) : Type 0 where
  ok : A → List ℕ → Read A
  bad : ℕ → Read A
  short : Read A

-- o is the first byte at which no valid value's bytes go on as s does: whatever follows it, the reading stops there
pub record Stuck {A : Type 0} (read : List ℕ → Read A) (enc : A → List ℕ) (valid : A → Type 0) (s : List ℕ) (o : ℕ) : Type 0 where
  pub inside : o < length s
  pub stops : (t : List ℕ) → read (take (o + 1) s ++ t) ≡ bad o
  pub before : Begins enc valid (take o s)

-- s is the bytes of the valid value a, and then u
pub record Is {A : Type 0} (enc : A → List ℕ) (valid : A → Type 0) (s : List ℕ) (a : A) (u : List ℕ) : Type 0 where
  pub fine : valid a
  pub bytes : s ≡ enc a ++ u

-- a format: how values are read and written, which are valid, and its laws. A valid value's bytes are read as that value; what is
-- read was valid and so written; where the reading finds a wrong byte it is stuck; bytes that end early begin a valid value; and
-- some value is valid
pub record Format (A : Type 0) : Type 1 where
  pub read : List ℕ → Read A
  pub enc : A → List ℕ
  pub valid : A → Type 0
  pub complete : (a : A) (u : List ℕ) → valid a → read (enc a ++ u) ≡ ok a u
  pub sound : (s : List ℕ) (a : A) (u : List ℕ) → read s ≡ ok a u → Is enc valid s a u
  pub stuck : (s : List ℕ) (o : ℕ) → read s ≡ bad o → Stuck read enc valid s o
  pub early : (s : List ℕ) → read s ≡ short → Begins enc valid s
  pub one : Begins enc valid []

-- ---- no bytes, for one value

module _ {A : Type 0} (a : A) where
  abbrev pub IsIt : A → Type 0
  IsIt x = x ≡ a

  -- written as nothing
  abbrev pub no_bytes : A → List ℕ
  no_bytes x = []

  -- read off nothing
  abbrev pub read_none : List ℕ → Read A
  read_none s = ok a s

  -- the value is read
  pub none-complete : (x : A) (u : List ℕ) → x ≡ a → read_none u ≡ ok x u
  none-complete x u h = rw h

  -- only the value is read
  pub none-sound : (s : List ℕ) (x : A) (u : List ℕ) → read_none s ≡ ok x u → Is no_bytes IsIt s x u
  none-sound s x u e = let y : x ≡ a = cc in let z : s ≡ u = cc in record { fine = y; bytes = z }

  -- no byte is wrong
  pub none_stuck : (s : List ℕ) (o : ℕ) → read_none s ≡ bad o → Stuck read_none no_bytes IsIt s o
  none_stuck s o e = let z : ◌≡◌ {A = ℕ} 0 1 = cc in absurd (omega arith)

  -- nothing ends early
  pub none-early : (s : List ℕ) → read_none s ≡ short → Begins no_bytes IsIt s
  none-early s e = let z : ◌≡◌ {A = ℕ} 0 1 = cc in absurd (omega arith)

  -- the format without bytes
  abbrev pub none_f : Format A
  none_f =
      record {
        read = read_none;
        enc = no_bytes;
        valid = IsIt;
        complete = none-complete;
        sound = none-sound;
        stuck = none_stuck;
        early = none-early;
        one = record { value = a; rest = []; fine = refl; bytes = refl };
      }

-- ---- a byte that passes a test

-- the next byte, if it passes the test p
unfoldable pub read_byte : (ℕ → Bool) → List ℕ → Read ℕ
read_byte p [] = short
read_byte p (x ∷ xs) = cond (p x) (ok x xs) (bad 0)

-- a byte as it is written
abbrev pub enc_byte : ℕ → List ℕ
enc_byte x = x ∷ []

module _ (p : ℕ → Bool) where
  abbrev pub Passes : ℕ → Type 0
  Passes x = p x ≡ true

  -- what is read passed
  pub byte-sound : (s : List ℕ) (a : ℕ) (u : List ℕ) → read_byte p s ≡ ok a u → Is enc_byte Passes s a u
  unfolding read_byte
  byte-sound [] a u e = let z : ◌≡◌ {A = ℕ} 0 1 = cc in absurd (omega arith)
  byte-sound (x ∷ xs) a u e =
      by_test (p x)
      (λ t. let k : ok x xs ≡ ok a u = rw t at e in
      let h : x ≡ a = cc in
      record { fine = rw h at t; bytes = cc })
      (λ t. let k : bad 0 ≡ ok a u = rw t at e in let z : ◌≡◌ {A = ℕ} 0 1 = cc in absurd (omega arith))

  -- a byte that does not pass is wrong
  pub byte-stuck : (w : ℕ) → p w ≡ true → (s : List ℕ) (o : ℕ) → read_byte p s ≡ bad o → Stuck (read_byte p) enc_byte Passes s o
  unfolding read_byte
  byte-stuck w h [] o e = let z : ◌≡◌ {A = ℕ} 0 1 = cc in absurd (omega arith)
  byte-stuck w h (x ∷ xs) o e =
      by_test (p x)
      (λ t. let k : ok x xs ≡ bad o = rw t at e in let z : ◌≡◌ {A = ℕ} 0 1 = cc in absurd (omega arith))
      (λ t. let k : ◌≡◌ {A = Read ℕ} (bad 0) (bad o) = rw t at e in
      let z : 0 ≡ o = cc in
      rw (← z) (record { inside = omega arith; stops = λ r. rw t; before = record { value = w; rest = w ∷ []; fine = h; bytes = refl } }))

  -- without a byte it ends early
  pub byte-early : (w : ℕ) → p w ≡ true → (s : List ℕ) → read_byte p s ≡ short → Begins enc_byte Passes s
  unfolding read_byte
  byte-early w h [] e = record { value = w; rest = w ∷ []; fine = h; bytes = refl }
  byte-early w h (x ∷ xs) e =
      by_test (p x)
      (λ t. let k : ok x xs ≡ short = rw t at e in let z : ◌≡◌ {A = ℕ} 0 1 = cc in absurd (omega arith))
      (λ t. let k : ◌≡◌ {A = Read ℕ} (bad 0) short = rw t at e in let z : ◌≡◌ {A = ℕ} 0 1 = cc in absurd (omega arith))

  -- a byte that passes is read
  pub byte-complete : (a : ℕ) (u : List ℕ) → p a ≡ true → read_byte p (enc_byte a ++ u) ≡ ok a u
  unfolding read_byte
  byte-complete a u h = rw h

  -- the format of a byte that passes, as w does
  abbrev pub byte_f : (w : ℕ) → p w ≡ true → Format ℕ
  byte_f w h =
      record {
        read = read_byte p;
        enc = enc_byte;
        valid = Passes;
        complete = byte-complete;
        sound = byte-sound;
        stuck = byte-stuck w h;
        early = byte-early w h;
        one = record { value = w; rest = w ∷ []; fine = h; bytes = refl };
      }
