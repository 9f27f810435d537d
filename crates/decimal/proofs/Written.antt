-- Digits written from the last to the first: what holds before each turn, and how a turn keeps it. Assumes nothing.
use mathlib.Core.Path.{◌≡◌, sym, ap, ◌∙◌}
use mathlib.Core.List.{List, [], ◌∷◌, ◌++◌, append_assoc, append-nil}
use Prim.Native.Nat.{ℕ, zero, suc, ◌+◌, ◌-◌, ◌/◌, ◌%◌, ◌<◌, ◌≤◌}
use native.Mathlib.Omega.{arith}
use lib.Dec.{ltb}
use lib.ListN.{length, set}
use borrow.Author.Tests.{ltb-true, ltb-false}
use Rattle.buffer.specs.Cases.{by_test}
use Rattle.buffer.specs.Part.{put}
use Rattle.buffer.specs.PartLaws.{length-put}
use Rattle.buffer.specs.Step.{put-nil, set-put, put_front}
use Rattle.decimal.specs.Digits.{digits}
use Rattle.decimal.specs.DigitLaws.{digits-one, digits_more, count-one, count-more, count-pos}

-- the last k digits of n
abbrev pub last_digits : ℕ → ℕ → List ℕ
last_digits zero n = []
last_digits (suc k) n = last_digits k (n / 10) ++ ((48 + n % 10) ∷ [])

-- as many last digits as a number has are all its digits
all_digits : (k n : ℕ) → length (digits n) ≡ k → digits n ≡ last_digits k n
all_digits zero n e = absurd (omega (arith, count-pos n))
all_digits (suc k) n e =
    by_test (ltb n 10)
    (λ t.
    let l = ltb-true n 10 t in
    let z : k ≡ 0 = omega (arith, count-one n l) in
    let m : n % 10 ≡ n = omega arith in
    rw (z, m) (digits-one n l))
    (λ t.
    let l = ltb-false n 10 t in
    digits_more n l ∙ rw (all_digits k (n / 10) (omega (arith, count-more n l))))

-- one element stored before what was put is put with it
set_before : (s bs : List ℕ) (j x : ℕ) → suc j + length bs ≤ length s → set (put s (suc j) bs) j x ≡ put s j (x ∷ bs)
set_before s bs j x h =
    let l = length-put s bs (suc j) h in
    set-put (put s (suc j) bs) j x (omega arith) ∙ put_front s (x ∷ []) bs j (suc j) (omega arith) (omega arith)

-- dst is dst₀ with the last digits of v put at i; those still to come are the i - at last digits of w
pub record Written (dst₀ : List ℕ) (at v w i : ℕ) (dst : List ℕ) : Type 0 where
  pub tail : List ℕ
  pub is : dst ≡ put dst₀ i tail
  pub splits : digits v ≡ last_digits (i - at) w ++ tail
  pub count : i + length tail ≡ at + length (digits v)
  pub room : at + length (digits v) ≤ length dst₀

-- before the first turn nothing is written
pub start : (dst₀ : List ℕ) (at v i : ℕ) → i ≡ at + length (digits v) → at + length (digits v) ≤ length dst₀ → Written dst₀ at v v i dst₀
start dst₀ at v i e h = record {
  tail = [];
  is = sym (put-nil dst₀ i);
  splits = all_digits (i - at) v (omega arith) ∙ sym (append-nil (last_digits (i - at) v));
  count = omega arith;
  room = h;
}

-- a turn writes the last digit of w before those that stand there
pub step : (dst₀ : List ℕ) (at v w i : ℕ) (dst : List ℕ) → Written dst₀ at v w i dst → at < i
    → Written dst₀ at v (w / 10) (i - 1) (set dst (i - 1) (48 + w % 10))
step dst₀ at v w zero dst r h = absurd (omega arith)
step dst₀ at v w (suc j) dst r h =
    let x : ℕ = 48 + w % 10 in
    let e : suc j - 1 ≡ j = omega arith in
    let k : suc j - at ≡ suc (j - at) = omega arith in
    rw e
    record {
      tail = x ∷ r.tail;
      is = rw r.is (set_before dst₀ r.tail j x (omega arith));
      splits = r.splits ∙ rw k (append_assoc (last_digits (j - at) (w / 10)) (x ∷ []) r.tail);
      count = omega arith;
      room = r.room;
    }

-- after the last turn all digits are put
pub done : (dst₀ : List ℕ) (at v w i : ℕ) (dst : List ℕ) → Written dst₀ at v w i dst → i ≡ at → dst ≡ put dst₀ at (digits v)
done dst₀ at v w i dst r h =
    let z : i - at ≡ 0 = omega arith in
    let q : digits v ≡ r.tail = rw z at r.splits in
    r.is ∙ rw (h, q)
