-- Formats that any k bytes fit, so that code may skip them. Assumes nothing.
use Rattle.std.specs.Prelude.{◌≡◌, refl, Bool, true, cond, Result, Ok, Err, List, [], ℕ, zero, suc, ◌+◌, ◌^◌, ◌≤◌, ◌<◌, leb, length, drop, get_or}
use Rattle.std.proofs.Common.{sym, ap, ◌∙◌, arith, length-append, lt-ltb, le-leb, leb-true, leb-false}
use Rattle.std.proofs.Math.Nat.{pow-succ', one-le-pow}
use Rattle.std.proofs.lemmas.Bool.{lt-leb}
use Rattle.buffer.specs.Cases.{by_test}
use Rattle.buffer.specs.Field.{Octets}
use Rattle.format.specs.Format.{Format, none_f, byte_f}
use Rattle.format.specs.Both.{both_f}
use Rattle.format.specs.Map.{From, map_f}
use Rattle.format.specs.Runs.{any_f, bytes_f, many_f, rep}
use Rattle.format.specs.Lists.{is_byte}
use Rattle.format.specs.Numbers.{digit_b, digit-yes, digit-is, digit-zero, digit_f, Digits, rest_of, upto, number_f}
use Rattle.format.specs.Ends.{wrong, same_offset, end_at, Got, Some, at_some, both_go, both-wrong, map-end, byte-got, byte-out}
use Rattle.format.specs.declared.Wrong.{Wrong}

-- any n bytes from `at` on, of l
unfoldable pub skip_end : ℕ → ℕ → ℕ → Result ℕ Wrong
skip_end l at n = cond (leb (at + n) l) (Ok (at + n)) (wrong l)

-- they are there
pub skip-in : (l at n : ℕ) → at + n ≤ l → skip_end l at n ≡ Ok (at + n)
unfolding skip_end
skip-in l at n h = rw (le-leb (at + n) l h)

-- they are not
pub skip-out : (l at n : ℕ) → l < at + n → skip_end l at n ≡ wrong l
unfolding skip_end
skip-out l at n h = rw (lt-leb (at + n) l h)

-- what code knows behind them
pub skip_is : (l at n e : ℕ) → skip_end l at n ≡ Ok e → (e ≡ at + n) × (e ≤ l)
unfolding skip_end
skip_is l at n e q =
    by_test (leb (at + n) l)
    (λ t. let k : Ok (at + n) ≡ Ok e = rw t at q in let z : at + n ≡ e = cc in let i = leb-true (at + n) l t in (sym z, omega arith))
    (λ t. let k : wrong l ≡ Ok e = rw t at q in absurd (let z : ◌≡◌ {A = ℕ} 0 1 = cc in omega arith))

-- and where they lack
pub skip-lack : (l at n : ℕ) (w : Wrong) → skip_end l at n ≡ Err w → (l < at + n) × (w.at ≡ l)
unfolding skip_end
skip-lack l at n w q =
    by_test (leb (at + n) l)
    (λ t. let k : Ok (at + n) ≡ Err w = rw t at q in absurd (let z : ◌≡◌ {A = ℕ} 0 1 = cc in omega arith))
    (λ t. let k : wrong l ≡ wrong w.at = rw t at q in (leb-false (at + n) l t, sym (same_offset l w.at k)))

-- any k bytes are an f
pub record Skips {A : Type 0} (f : Format A) (k : ℕ) : Type 0 where
  pub whole : (s : List ℕ) → Octets s → (at e : ℕ) → e ≡ at + k → e ≤ length s → Some f s at e
  pub lack : (s : List ℕ) → Octets s → (at : ℕ) → at ≤ length s → length s < at + k → end_at f s at ≡ wrong (length s)

-- code may skip them
pub skips-end : {A : Type 0} (f : Format A) (k : ℕ) → Skips f k → (s : List ℕ) → Octets s → (at : ℕ) → at ≤ length s → end_at f s at ≡ skip_end (length s) at k
skips-end f k x s b at h =
    by_test (leb (at + k) (length s))
    (λ e. let i = leb-true _ _ e in
    let w = x.whole s b at (at + k) refl i in
    at_some f s at w.value (at + k) w.got ∙ sym (skip-in (length s) at k i))
    (λ e. let i = leb-false _ _ e in x.lack s b at h i ∙ sym (skip-out (length s) at k i))

-- ---- put together as the formats are

module _ {A : Type 0} {B : Type 0} (f : Format A) (g : A → Format B) where
  pub pair-got : (s : List ℕ) (at m e : ℕ) (a : A) (b : B) → Got f s at a m → Got (g a) s m b e → Got (both_f f g) s at (a, b) e
  pair-got s at m e a b x y =
      record {
        is = rw (x.is, y.is);
        ends = let p = x.ends in let q = y.ends in q ∙ rw length-append (omega arith);
        inside = y.inside;
      }

  -- what was read is valid
  read-valid : (s : List ℕ) (at e : ℕ) (a : A) → Got f s at a e → f.valid a
  read-valid s at e a w = (f.sound (drop at s) a (drop e s) w.is).fine

  -- two after each other
  pub skip_both : (j k n : ℕ) → n ≡ j + k → Skips f j → ((a : A) → f.valid a → Skips (g a) k) → Skips (both_f f g) n
  skip_both j k n q x y =
      record {
        whole = λ s b at e z h.
            let w = x.whole s b at (at + j) refl (omega arith) in
            let v = (y w.value (read-valid s at (at + j) w.value w.got)).whole s b (at + j) e (omega arith) h in
            record { value = (w.value, v.value); got = pair-got s at (at + j) e w.value v.value w.got v.got };
        lack = λ s b at l h.
            by_test (leb (at + j) (length s))
            (λ t. let i = leb-true _ _ t in
            let w = x.whole s b at (at + j) refl i in
            both_go f s at g w.value (at + j) w.got ∙ (y w.value (read-valid s at (at + j) w.value w.got)).lack s b (at + j) i (omega arith))
            (λ t. both-wrong f s at g (length s) (x.lack s b at l (leb-false _ _ t)));
      }

module _ {A : Type 0} (f : Format A) {B : Type 0} (to : A → B) (enc : B → List ℕ) (valid : B → Type 0)
    (written : (a : A) → f.valid a → enc (to a) ≡ f.enc a)
    (kept : (a : A) → f.valid a → valid (to a))
    (onto : (b : B) → valid b → From f.valid to b) where
  pub map-got : (s : List ℕ) (at e : ℕ) (a : A) → Got f s at a e → Got (map_f f to enc valid written kept onto) s at (to a) e
  map-got s at e a w =
      let i = f.sound (drop at s) a (drop e s) w.is in
      record { is = rw w.is; ends = w.ends ∙ ap (λ (l : List ℕ). at + length l) (sym (written a i.fine)); inside = w.inside }

  -- as other values
  pub skip-map : (k : ℕ) → Skips f k → Skips (map_f f to enc valid written kept onto) k
  skip-map k x =
      record {
        whole = λ s b at e z h. let w = x.whole s b at e z h in record { value = to w.value; got = map-got s at e w.value w.got };
        lack = λ s b at l h. map-end f s at to enc valid written kept onto ∙ x.lack s b at l h;
      }

-- ---- bytes

-- a byte that passes a test, where every byte does
pub skip-byte : (p : ℕ → Bool) (w : ℕ) (h : p w ≡ true) → ((b : ℕ) → b < 256 → p b ≡ true) → Skips (byte_f p w h) 1
skip-byte p w h all =
    record {
      whole = λ s b at e z l. record { value = get_or s at 0; got = rw (sym z) at (byte-got p w h s at (omega arith) (all (get_or s at 0) (b at))) };
      lack = λ s b at l k. byte-out p w h s at (omega arith);
    }

-- nothing
pub skip-none : {A : Type 0} (a : A) → Skips (none_f a) 0
skip-none a =
    record {
      whole = λ s b at e z h. record { value = a; got = record { is = let q : at ≡ e = omega arith in rw q; ends = z; inside = h } };
      lack = λ s b at l h. absurd (omega arith);
    }

-- a byte
skip-any : Skips any_f 1
skip-any = skip-map (byte_f is_byte 0 refl) _ _ _ _ _ _ 1 (skip-byte is_byte 0 refl (λ b h. lt-ltb b 256 h))

-- n bytes, one by one
skip-rep : (n : ℕ) → Skips (rep any_f n).form n
unfolding rep
skip-rep zero = skip-none []
skip-rep (suc n) =
    skip-map (both_f any_f (λ a. (rep any_f n).form)) _ _ _ _ _ _ (suc n)
    (skip_both any_f (λ a. (rep any_f n).form) 1 n (suc n) (omega arith) skip-any (λ a h. skip-rep n))

-- n bytes
pub skip-bytes : (n : ℕ) → Skips (bytes_f n) n
skip-bytes n = skip-map (many_f any_f n) _ _ _ _ _ _ n (skip-map (rep any_f n).form _ _ _ _ _ _ n (skip-rep n))

-- ---- numbers that take all that w bytes can spell

-- any w bytes spell a number below 256^w
skip-upto : (w m : ℕ) → 256 ^ w ≤ m + 1 → Skips (upto w m).form w
unfolding upto
skip-upto zero m h = skip-none 0
skip-upto (suc w) m h =
    let p = pow-succ' 256 w in
    let o = one-le-pow w 256 (omega arith) in
    skip-map (Digits w m (λ b. upto w (rest_of m b))) _ _ _ _ _ _ (suc w)
    (skip_both (digit_f m) (λ b. (upto w (rest_of m b)).form) 1 w (suc w) (omega arith)
    (skip-byte (digit_b m) 0 (digit-zero m) (λ b l. digit-yes m b l (omega arith)))
    (λ b l. let d = (digit-is m b l).0 in skip-upto w (rest_of m b) (omega arith)))

-- so a number of which all are allowed may be skipped
pub skip-number : (w m : ℕ) (q : m < 256 ^ w) → 256 ^ w ≤ m + 1 → Skips (number_f w m q) w
skip-number w m q h = skip-map (upto w m).form _ _ _ _ _ _ w (skip-upto w m h)
