-- RESP2's nulls, `$-1` and `*-1`: how their beginning is told from that of other values, and what follows it. Assumes nothing.
use Rattle.std.specs.Prelude.{◌≡◌, refl, Bool, true, false, [], ◌∷◌, ℕ, ◌+◌, ◌≤◌, ◌<◌, eqb, length, get_or, drop, None}
use Rattle.std.proofs.Common.{ap, ◌∙◌, arith, eqb-true, ne_eqb}
use Rattle.buffer.specs.Same.{Bytes}
use Rattle.buffer.specs.Places.{after, first, get_or-drop0, get_or-out, inside}
use Rattle.decimal.specs.Read.{both, digit_b}
use Rattle.decimal.specs.ReadLaws.{both_true, lead-stop, num-none}
use Rattle.decimal.specs.NumLaw.{head-ge}
use Rattle.resp3.specs.Value.{crlf, counted}
use Rattle.resp3.specs.Ends.{length_at, crlf_end, null_byte_b, null_word_b, one_end}

-- where one test does not hold, both do not
both-no : (a : Bool) → both a false ≡ false
both-no true = refl
both-no false = refl

-- where one holds, the other decides
both_yes : (a : Bool) → both a true ≡ a
both_yes true = refl
both_yes false = refl

-- ---- how they begin

-- no minus behind the first byte
pub word-minus : (s : Bytes) (at : ℕ) → ((get_or s (at + 1) 0 ≡ 45) → ⊥) → null_word_b s at ≡ false
unfolding null_word_b
word-minus s at h = rw (ne_eqb (get_or s (at + 1) 0) 45 h) (both-no (null_byte_b (get_or s at 0)))

-- a minus, so that the first byte decides
pub word_byte : (s : Bytes) (at : ℕ) → get_or s (at + 1) 0 ≡ 45 → null_word_b s at ≡ null_byte_b (get_or s at 0)
unfolding null_word_b
word_byte s at h = rw h (both_yes (null_byte_b (get_or s at 0)))

-- `$` or not
pub word_else : (s : Bytes) (at : ℕ) → get_or s (at + 1) 0 ≡ 45 → ((get_or s at 0 ≡ 36) → ⊥) → null_word_b s at ≡ eqb (get_or s at 0) 42
word_else s at h k = word_byte s at h ∙ rw (ne_eqb (get_or s at 0) 36 k)

-- a first byte that begins neither of them
pub word-other : (s : Bytes) (at : ℕ) → null_byte_b (get_or s at 0) ≡ false → null_word_b s at ≡ false
unfolding null_word_b
word-other s at h = rw h

-- past the end there is no minus
pub word_out : (s : Bytes) (at : ℕ) → length s ≤ at + 1 → null_word_b s at ≡ false
word_out s at h = word-minus s at (λ z. let k = get_or-out s (at + 1) h in omega arith)

-- what a found one says
pub word-says : (s : Bytes) (at : ℕ) → null_word_b s at ≡ true → (null_byte_b (get_or s at 0) ≡ true) × (get_or s (at + 1) 0 ≡ 45)
unfolding null_word_b
word-says s at h =
    let t = both_true (null_byte_b (get_or s at 0)) (eqb (get_or s (at + 1) 0) 45) h in
    (t.0, eqb-true (get_or s (at + 1) 0) 45 t.1)

-- its minus lies in the list
pub word_in : (s : Bytes) (at : ℕ) → null_word_b s at ≡ true → at + 1 < length s
word_in s at h = let m = (word-says s at h).1 in inside s (at + 1) (omega arith)

-- and begins no length or count
pub word-length : (s : Bytes) (at : ℕ) → null_word_b s at ≡ true → length_at s (at + 1) ≡ None
unfolding length_at
word-length s at h =
    let m = (word-says s at h).1 in
    num-none (length s) s (at + 1) (λ z. omega arith) (lead-stop s (at + 1) (ap digit_b m))

-- a length or a count behind the first byte has no sign, so that it is none of them
pub word_count : (s : Bytes) (at b n : ℕ) (q : Bytes) → drop at s ≡ b ∷ counted n q → null_word_b s at ≡ false
word_count s at b n q h =
    let g = head-ge n (crlf q) in
    let f : get_or s (at + 1) 0 ≡ get_or (counted n q) 0 0 =
    get_or-drop0 s (at + 1) ∙ ap (λ (z : Bytes). get_or z 0 0) (after s at (b ∷ []) (counted n q) h) in
    word-minus s at (λ z. omega arith)

-- where one is written it is seen
pub word-is : (s : Bytes) (at b : ℕ) (r : Bytes) → null_byte_b b ≡ true → drop at s ≡ b ∷ 45 ∷ 49 ∷ crlf r → null_word_b s at ≡ true
word-is s at b r o h =
    word_byte s at (first s (at + 1) 45 (49 ∷ crlf r) (after s at (b ∷ []) _ h)) ∙ ap null_byte_b (first s at b _ h) ∙ o

-- ---- what follows

-- behind the minus, 1 and CR LF
pub one-yes : (s : Bytes) (p : ℕ) → get_or s p 0 ≡ 49 → one_end s p ≡ crlf_end s (p + 1)
unfolding one_end
one-yes s p h = rw h

-- anything else
pub one-no : (s : Bytes) (p : ℕ) → ((get_or s p 0 ≡ 49) → ⊥) → one_end s p ≡ None
unfolding one_end
one-no s p h = rw (ne_eqb (get_or s p 0) 49 h)

-- as nothing does past the end
pub one_out : (s : Bytes) (p : ℕ) → length s ≤ p → one_end s p ≡ None
one_out s p h = one-no s p (λ z. let k = get_or-out s p h in omega arith)
