-- Numbers of w bytes, the lowest first, that are at most m. A byte is wrong as soon as the bytes up to it make more than m, whatever
-- follows. Assumes nothing.
use Rattle.std.specs.Prelude.{◌≡◌, refl, Bool, true, false, cond, ℕ, zero, suc, ◌+◌, ◌-◌, ◌*◌, ◌/◌, ◌%◌, ◌^◌, ◌≤◌, ◌<◌, leb, ltb}
use Rattle.std.proofs.Math.Path.{sym, ap₂}
use Rattle.std.proofs.Common.{ap, ◌∙◌, lt-ltb, ltb-true, le-leb, leb-true}
use mathlib.Core.List.{List, ◌∷◌}
use native.Mathlib.Omega.{arith}
use Rattle.std.proofs.Math.Nat.{pow-succ'}
use Rattle.std.proofs.lemmas.Bool.{lt-leb}
use Rattle.buffer.specs.Cases.{by_test}
use Rattle.buffer.specs.Field.{le}
use Rattle.format.specs.Format.{Format, none_f, byte_f}
use Rattle.format.specs.Both.{both_f}
use Rattle.format.specs.Map.{From, map_f}

-- a byte of at most m
abbrev pub digit_b : ℕ → ℕ → Bool
digit_b m b = cond (ltb b 256) (leb b m) false

-- which bytes pass
pub digit-yes : (m b : ℕ) → b < 256 → b ≤ m → digit_b m b ≡ true
digit-yes m b h k = rw (lt-ltb b 256 h, le-leb b m k)

-- which do not
pub digit-no : (m b : ℕ) → m < b → digit_b m b ≡ false
digit-no m b h = by_test (ltb b 256) (λ t. rw (t, lt-leb b m h)) (λ t. rw t)

-- what passing says
pub digit-is : (m b : ℕ) → digit_b m b ≡ true → (b < 256) × (b ≤ m)
digit-is m b e =
    by_test (ltb b 256)
    (λ t. let k : leb b m ≡ true = rw t at e in (ltb-true b 256 t, leb-true b m k))
    (λ t. let k : false ≡ true = rw t at e in let z : ◌≡◌ {A = ℕ} 0 1 = cc in absurd (omega arith))

-- n fits w bytes and is at most m
abbrev pub UpTo : ℕ → ℕ → ℕ → Type 0
UpTo w m n = (n < 256 ^ w) × (n ≤ m)

-- the number of a first byte and the rest
abbrev pub pair_of : ℕ × ℕ → ℕ
pair_of x = x.0 + 256 * x.1

-- 0 always passes
pub digit-zero : (m : ℕ) → digit_b m 0 ≡ true
digit-zero m = digit-yes m 0 (omega arith) (omega arith)

-- the first byte
abbrev pub digit_f : ℕ → Format ℕ
digit_f m = byte_f (digit_b m) 0 (digit-zero m)

-- ---- the format, by the number of bytes

-- the format of the numbers of w bytes that are at most m
pub record Upto (w m : ℕ) : Type 1 where
  pub form : Format ℕ
  pub enc-is : (n : ℕ) → form.enc n ≡ le w n
  pub valid-is : (n : ℕ) → form.valid n → UpTo w m n
  pub is-valid : (n : ℕ) → UpTo w m n → form.valid n

-- what is left of m for the bytes after b
abbrev pub rest_of : ℕ → ℕ → ℕ
rest_of m b = (m - b) / 256

module _ (w m : ℕ) (rest : (b : ℕ) → Upto w (rest_of m b)) where
  abbrev pub Digits : Format (ℕ × ℕ)
  Digits = both_f (digit_f m) (λ b. (rest b).form)

  -- the bytes are those of the number
  pub digits-written : (x : ℕ × ℕ) → Digits.valid x → le (suc w) (pair_of x) ≡ Digits.enc x
  unfolding le
  digits-written x h =
      let d = digit-is m x.0 h.0 in
      let a = d.0 in
      let p : pair_of x % 256 ≡ x.0 = omega arith in
      let q : pair_of x / 256 ≡ x.1 = omega arith in
      ap₂ (λ (b : ℕ) (l : List ℕ). b ∷ l) p (ap (le w) q ∙ sym ((rest x.0).enc-is x.1))

  -- the number is at most m
  pub digits-kept : (x : ℕ × ℕ) → Digits.valid x → UpTo (suc w) m (pair_of x)
  digits-kept x h =
      let d = digit-is m x.0 h.0 in
      let a = d.0 in
      let b = d.1 in
      let r = (rest x.0).valid-is x.1 h.1 in
      let i = r.0 in
      let j = r.1 in
      let p = pow-succ' 256 w in
      (rw p (omega arith), omega arith)

  -- every such number has its bytes
  pub digits_onto : (n : ℕ) → UpTo (suc w) m n → From Digits.valid pair_of n
  digits_onto n h =
      let i : n < 256 * 256 ^ w = rw (pow-succ' 256 w) at h.0 in
      let j = h.1 in
      record {
        value = (n % 256, n / 256);
        fine = (digit-yes m (n % 256) (omega arith) (omega arith), (rest (n % 256)).is-valid (n / 256) (omega arith, omega arith));
        same = omega arith;
      }

  -- one byte more
  abbrev pub more_f : Format ℕ
  more_f = map_f Digits pair_of (le (suc w)) (UpTo (suc w) m) digits-written digits-kept digits_onto

-- the format for w bytes
unfoldable pub upto : (w m : ℕ) → Upto w m
unfolding le
upto zero m =
    record {
      form = none_f 0;
      enc-is = λ n. refl;
      valid-is = λ n h. let z : n ≡ 0 = h in (omega arith, omega arith);
      is-valid = λ n h. let z = h.0 in omega arith;
    }
upto (suc w) m =
    record {
      form = more_f w m (λ b. upto w (rest_of m b));
      enc-is = λ n. refl;
      valid-is = λ n h. h;
      is-valid = λ n h. h;
    }

-- a number of w bytes that is at most m, which w bytes can hold
abbrev pub number_f : (w m : ℕ) → m < 256 ^ w → Format ℕ
number_f w m q =
    map_f (upto w m).form (λ n. n) (le w) (λ n. n ≤ m)
    (λ n h. sym ((upto w m).enc-is n))
    (λ n h. ((upto w m).valid-is n h).1)
    (λ n h. record { value = n; fine = (upto w m).is-valid n (omega arith, h); same = refl })
