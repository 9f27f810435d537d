-- Laws of little-endian fields (Field.antt), each once for every width. Assumes nothing.
use Rattle.std.specs.Prelude.{◌≡◌, refl, false, [], ◌∷◌, ◌++◌, ℕ, zero, suc, ◌+◌, ◌*◌, ◌/◌, ◌%◌, ◌^◌, ◌≤◌, ◌<◌, length, get_or, drop}
use Rattle.std.proofs.Common.{ap, ap₂, ◌∙◌, sym, arith, add-zero, zero-add, mul_assoc, pow-suc, suc-add, div-one, add-one, get_or-append-add, drop-cons}
use Rattle.std.proofs.Math.Nat.{pow-zero, pow-succ', div-div-eq-div-mul, mod-add-div}
use Rattle.buffer.specs.Same.{Bytes, same}
use Rattle.buffer.specs.SameLaws.{unequal-same}
use Rattle.buffer.specs.Part.{part}
use Rattle.buffer.specs.PartLaws.{get_d_part}
use Rattle.buffer.specs.Field.{le, read_le, Octets}

-- ---- lengths and bounds

-- a field of w bytes has w bytes
pub length-le : (w n : ℕ) → length (le w n) ≡ w
unfolding le
length-le zero n = refl
length-le (suc w) n = ap suc (length-le w (n / 256))

-- what w bytes spell is below 256 ^ w
pub read_below : (w : ℕ) (s : Bytes) (at : ℕ) → Octets s → read_le w s at < 256 ^ w
unfolding read_le
read_below zero s at b = omega arith
read_below (suc w) s at b = omega (arith, pow-suc 256 w, b at, read_below w s (at + 1) b)

-- ---- what is written is read

-- reading past a front is reading the rest
pub read_past : (w : ℕ) (X Y : Bytes) (at k : ℕ) → length X ≡ at → read_le w (X ++ Y) (at + k) ≡ read_le w Y k
unfolding read_le
read_past zero X Y at k e = refl
read_past (suc w) X Y at k e =
    let a : get_or (X ++ Y) (at + k) 0 ≡ get_or Y k 0 = rw (← e) (get_or-append-add X Y k 0) in
    let b : read_le w (X ++ Y) (at + (k + 1)) ≡ read_le w Y (k + 1) = read_past w X Y at (k + 1) e in
    let c : at + k + 1 ≡ at + (k + 1) = omega arith in
    rw (c, a, b)

-- a number's bytes spell it, whatever follows
pub read_here : (w n : ℕ) (Y : Bytes) → n < 256 ^ w → read_le w (le w n ++ Y) 0 ≡ n
unfolding read_le le
read_here zero n Y h = omega arith
read_here (suc w) n Y h =
    let p = pow-suc 256 w in
    let e : read_le w (n % 256 ∷ (le w (n / 256) ++ Y)) 1 ≡ n / 256 = read_past w (n % 256 ∷ []) (le w (n / 256) ++ Y) 1 0 refl
    ∙ read_here w (n / 256) Y (omega arith) in
    omega arith

-- a number's bytes spell it behind any front and before any rest
pub read_at : (w : ℕ) (X Y : Bytes) (n at : ℕ) → length X ≡ at → n < 256 ^ w → read_le w (X ++ (le w n ++ Y)) at ≡ n
read_at w X Y n at e h =
    let z : at + 0 ≡ at = add-zero at in
    cc (read_past w X (le w n ++ Y) at 0 e, read_here w n Y h)

-- ---- pieces of a field, and other lists

-- a field is its lower and its higher bytes, each a field
pub read-add : (v w : ℕ) (s : Bytes) (at : ℕ) → read_le (v + w) s at ≡ read_le v s at + 256 ^ v * read_le w s (at + v)
unfolding read_le
read-add zero w s at = rw (zero-add w, add-zero at) (omega arith)
read-add (suc v) w s at =
    let a : read_le (v + w) s (at + 1) ≡ read_le v s (at + 1) + 256 ^ v * read_le w s (at + 1 + v) = read-add v w s (at + 1) in
    let b : at + 1 + v ≡ at + suc v = omega arith in
    let c : read_le (v + w) s (at + 1) ≡ read_le v s (at + 1) + 256 ^ v * read_le w s (at + suc v) = rw b at a in
    rw (suc-add v w, pow-succ' 256 v, c) (times (get_or s at 0) (read_le v s (at + 1)) (256 ^ v) (read_le w s (at + suc v)))
  where
    times : (g r p q : ℕ) → g + 256 * (r + p * q) ≡ g + 256 * r + 256 * p * q
    times g r p q = rw mul_assoc (omega arith)

-- a number's bytes are those of its lower and of its higher part
pub le-add : (v w n : ℕ) → le (v + w) n ≡ le v (n % 256 ^ v) ++ le w (n / 256 ^ v)
unfolding le
le-add zero w n = rw (zero-add w, pow-zero 256, div-one n)
le-add (suc v) w n =
    let P : ℕ = 256 ^ v in
    let X : ℕ = P * (n / 256 / P) in
    let p : 256 ^ suc v ≡ 256 * P = pow-succ' 256 v in
    let up : n / (256 * P) ≡ n / 256 / P = sym (div-div-eq-div-mul n 256 P) in
    let whole : n % (256 * P) + 256 * X ≡ n = rw (← mul_assoc 256 P (n / 256 / P), ← up) (mod-add-div n (256 * P)) in
    let high : n / 256 % P + X ≡ n / 256 = mod-add-div (n / 256) P in
    let lo : n % (256 * P) % 256 ≡ n % 256 = omega arith in
    let hi : n % (256 * P) / 256 ≡ n / 256 % P = omega arith in
    rw (suc-add v w, p, lo, hi, up) (ap (◌∷◌ (n % 256)) (le-add v w (n / 256)))

-- only the w bytes themselves count
pub read-agree : (w : ℕ) (s t : Bytes) (at to : ℕ) → ((i : ℕ) → i < w → get_or s (at + i) 0 ≡ get_or t (to + i) 0) → read_le w s at ≡ read_le w t to
unfolding read_le
read-agree zero s t at to f = refl
read-agree (suc w) s t at to f = ap₂ (λ (x y : ℕ). x + 256 * y) first (read-agree w s t (at + 1) (to + 1) rest)
  where
    first : get_or s at 0 ≡ get_or t to 0
    first = cc (f 0 (omega arith), add-zero at, add-zero to)

    rest : (i : ℕ) → i < w → get_or s (at + 1 + i) 0 ≡ get_or t (to + 1 + i) 0
    rest i h =
        let a : at + suc i ≡ at + 1 + i = omega arith in
        let b : to + suc i ≡ to + 1 + i = omega arith in
        cc (f (suc i) (omega arith))

-- the bytes that were read are those of the number that was read
pub le_read : (w : ℕ) (s : Bytes) (at : ℕ) → Octets s → at + w ≤ length s → le w (read_le w s at) ≡ part s at w
unfolding le read_le part
le_read zero s at b h = refl
le_read (suc w) s at b h =
    let g = b at in
    let lo : (get_or s at 0 + 256 * read_le w s (at + 1)) % 256 ≡ get_or s at 0 = omega arith in
    let hi : (get_or s at 0 + 256 * read_le w s (at + 1)) / 256 ≡ read_le w s (at + 1) = omega arith in
    let e : drop at s ≡ get_or s at 0 ∷ drop (at + 1) s = rw add-one (drop-cons s at 0 (omega arith)) in
    rw (lo, hi, e) (ap (◌∷◌ (get_or s at 0)) (le_read w s (at + 1) b (omega arith)))

-- a field within a part is a field of the whole
pub read-in-part : (w : ℕ) (s : Bytes) (at n i : ℕ) → i + w ≤ n → read_le w (part s at n) i ≡ read_le w s (at + i)
read-in-part w s at n i h =
    read-agree w (part s at n) s i (at + i) (λ j l. let e : at + (i + j) ≡ at + i + j = omega arith in cc (get_d_part s at n (i + j) 0 (omega arith)))

-- byte strings in which other numbers are read at a place are not the same
pub other-read : (w : ℕ) (a b : Bytes) (i : ℕ) → (read_le w a i ≡ read_le w b i → ⊥) → same a b ≡ false
other-read w a b i n = unequal-same a b (λ e. n (ap (λ (z : Bytes). read_le w z i) e))
