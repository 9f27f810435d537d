-- Given bytes, and lists and texts with their length in front. Assumes nothing.
use Rattle.std.specs.Prelude.{◌≡◌, refl, List, [], ◌∷◌, ◌++◌, ℕ, ◌^◌, ◌≤◌, ◌<◌, eqb, length}
use Rattle.std.proofs.Common.{sym, ap, ap₂, arith, eq-eqb, eqb-true}
use Rattle.buffer.specs.Field.{le}
use Rattle.format.specs.Format.{Format, none_f, byte_f}
use Rattle.format.specs.Both.{both_f}
use Rattle.format.specs.Map.{map_f}
use Rattle.format.specs.Runs.{bytes_f, many_f}
use Rattle.format.specs.Lists.{enc_all, All, Byte}
use Rattle.format.specs.Numbers.{number_f}

-- a byte that is x
abbrev pub lit_f : ℕ → Format ℕ
lit_f x = byte_f (λ y. eqb y x) x (eq-eqb x x refl)

-- ---- the bytes bs, which stand for nothing else

pub record Word (bs : List ℕ) : Type 1 where
  pub form : Format (Unit {0})
  pub enc-is : (u : Unit {0}) → form.enc u ≡ bs
  pub is-valid : (u : Unit {0}) → form.valid u

abbrev pub Any : Unit {0} → Type 0
Any u = Unit {0}

-- they stand for nothing
abbrev pub done : ℕ × Unit {0} → Unit {0}
done x = tt

-- the format of the bytes, one by one
unfoldable pub word : (bs : List ℕ) → Word bs
word [] = record { form = none_f tt; enc-is = λ u. refl; is-valid = λ u. refl }
word (b ∷ bs) =
    record {
      form =
          map_f (both_f (lit_f b) (λ a. (word bs).form)) done (λ u. b ∷ bs) Any
          (λ x h. ap₂ (λ (a : ℕ) (l : List ℕ). a ∷ l) (sym (eqb-true x.0 b h.0)) (sym ((word bs).enc-is x.1)))
          (λ x h. tt)
          (λ u h. record { value = (b, tt); fine = (eq-eqb b b refl, (word bs).is-valid tt); same = refl });
      enc-is = λ u. refl;
      is-valid = λ u. tt;
    }

-- the format of the given bytes
abbrev pub word_f : (bs : List ℕ) → Format (Unit {0})
word_f bs =
    map_f (word bs).form (λ u. u) (λ u. bs) Any
    (λ u h. sym ((word bs).enc-is u))
    (λ u h. tt)
    (λ u h. record { value = u; fine = (word bs).is-valid u; same = refl })

-- ---- at most m of a kind, behind their number in w bytes

module _ (w m : ℕ) (q : m < 256 ^ w) where
  abbrev pub list_f : {A : Type 0} → Format A → Format (List A)
  list_f f =
      map_f (both_f (number_f w m q) (λ n. many_f f n)) (λ x. x.1) (λ l. le w (length l) ++ enc_all f.enc l) (λ l. (length l ≤ m) × All f.valid l)
      (λ x h. ap (λ (n : ℕ). le w n ++ enc_all f.enc x.1) h.1.0)
      (λ x h. let k : x.0 ≤ m = h.0 in let e : length x.1 ≡ x.0 = h.1.0 in (omega arith, h.1.1))
      (λ l h. record { value = (length l, l); fine = (h.0, (refl, h.1)); same = refl })

  -- at most m bytes
  abbrev pub text_f : Format (List ℕ)
  text_f =
      map_f (both_f (number_f w m q) (λ n. bytes_f n)) (λ x. x.1) (λ l. le w (length l) ++ l) (λ l. (length l ≤ m) × All Byte l)
      (λ x h. ap (λ (n : ℕ). le w n ++ x.1) h.1.0)
      (λ x h. let k : x.0 ≤ m = h.0 in let e : length x.1 ≡ x.0 = h.1.0 in (omega arith, h.1.1))
      (λ l h. record { value = (length l, l); fine = (h.0, (refl, h.1)); same = refl })
