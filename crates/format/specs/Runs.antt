-- Formats of runs: n of a kind, n bytes. Assumes nothing.
use Rattle.std.specs.Prelude.{◌≡◌, refl, List, [], ◌∷◌, ◌++◌, ℕ, zero, suc, length}
use Rattle.std.proofs.Common.{sym, ap, arith, lt-ltb, ltb-true}
use Rattle.format.specs.Format.{Format, none_f, byte_f}
use Rattle.format.specs.Both.{both_f}
use Rattle.format.specs.Map.{From, map_f}
use Rattle.format.specs.Lists.{enc_all, All, is_byte, Byte}

-- so is everything in both lists together
pub all_append : {A : Type 0} (good : A → Type 0) (xs ys : List A) → All good xs → All good ys → All good (xs ++ ys)
all_append good [] ys v w = w
all_append good (x ∷ xs) ys v w = (v.0, all_append good xs ys v.1 w)

-- ---- n of a kind

module _ {A : Type 0} (f : Format A) where
  -- n valid ones
  abbrev pub Many : ℕ → List A → Type 0
  Many n l = (length l ≡ n) × All f.valid l

  -- the format of n of them
  pub record Rep (n : ℕ) : Type 1 where
    pub form : Format (List A)
    pub enc-is : (l : List A) → form.valid l → form.enc l ≡ enc_all f.enc l
    pub valid-is : (l : List A) → form.valid l → Many n l
    pub is-valid : (l : List A) → Many n l → form.valid l

  -- the first and the others
  abbrev pub cons_of : A × List A → List A
  cons_of x = x.0 ∷ x.1

  -- every list of n + 1 is made so
  pub onto-cons : (n : ℕ) (r : Rep n) (l : List A) → Many (suc n) l → From (both_f f (λ a. r.form)).valid cons_of l
  onto-cons n r [] h = absurd (omega arith)
  onto-cons n r (a ∷ l) h = record { value = (a, l); fine = (h.1.0, r.is-valid l (omega arith, h.1.1)); same = refl }

  -- a list of none is empty
  pub nil-valid : (l : List A) → Many 0 l → l ≡ []
  nil-valid [] h = refl
  nil-valid (x ∷ l) h = absurd (omega arith)

  -- the empty list has none
  pub nil-many : (l : List A) → l ≡ [] → Many 0 l
  nil-many l h = rw h (refl, tt)

  -- and no bytes
  pub nil-enc : (l : List A) → l ≡ [] → [] ≡ enc_all f.enc l
  nil-enc l h = rw h

  -- the format of n
  unfoldable pub rep : (n : ℕ) → Rep n
  rep zero = record { form = none_f []; enc-is = nil-enc; valid-is = nil-many; is-valid = nil-valid }
  rep (suc n) =
      record {
        form =
            map_f (both_f f (λ a. (rep n).form)) cons_of (enc_all f.enc) (Many (suc n))
            (λ x h. ap (λ (l : List ℕ). f.enc x.0 ++ l) (sym ((rep n).enc-is x.1 h.1)))
            (λ x h. let m = (rep n).valid-is x.1 h.1 in (ap suc m.0, (h.0, m.1)))
            (onto-cons n (rep n));
        enc-is = λ l h. refl;
        valid-is = λ l h. h;
        is-valid = λ l h. h;
      }

  -- the format of n, with their bytes one after the other
  abbrev pub many_f : ℕ → Format (List A)
  many_f n =
      map_f (rep n).form (λ l. l) (enc_all f.enc) (Many n)
      (λ l h. sym ((rep n).enc-is l h))
      (λ l h. (rep n).valid-is l h)
      (λ l h. record { value = l; fine = (rep n).is-valid l h; same = refl })

-- any byte
abbrev pub any_f : Format ℕ
any_f =
    map_f (byte_f is_byte 0 refl) (λ x. x) (λ x. x ∷ []) Byte
    (λ x h. refl)
    (λ x h. ltb-true x 256 h)
    (λ x h. record { value = x; fine = lt-ltb x 256 h; same = refl })

-- bytes one after the other are themselves
pub enc_all-bytes : (l : List ℕ) → enc_all (λ x. x ∷ []) l ≡ l
enc_all-bytes [] = refl
enc_all-bytes (x ∷ l) = ap (λ (t : List ℕ). x ∷ t) (enc_all-bytes l)

-- n bytes
abbrev pub bytes_f : ℕ → Format (List ℕ)
bytes_f n =
    map_f (many_f any_f n) (λ l. l) (λ l. l) (λ l. (length l ≡ n) × All Byte l)
    (λ l h. sym (enc_all-bytes l))
    (λ l h. h)
    (λ l h. record { value = l; fine = h; same = refl })
