-- One equation for each way through the code, by which the proofs of the functions go. Assumes nothing.
use Rattle.std.specs.Prelude.{◌≡◌, refl, ℕ, ◌+◌, ◌-◌, ◌≤◌, ◌<◌, length, get_or, Option, Some, None, unwrap_or}
use Rattle.std.proofs.Common.{arith, eq-eqb, ne_eqb, le-leb}
use Rattle.std.proofs.lemmas.Bool.{lt-leb}
use Rattle.buffer.specs.Same.{Bytes}
use Rattle.config.specs.Limits.{max_depth}
use Rattle.buffer.specs.Places.{get_or-out}
use Rattle.decimal.specs.Read.{num_def}
use Rattle.decimal.specs.ReadLaws.{num-out}
use Rattle.resp3.specs.Ends.{length_at, value_end}
use Rattle.resp3.specs.Decode.{num_case}
use Rattle.resp3_element.specs.declared.Cursor.{Cursor}
use Rattle.resp3_element.specs.Places.{end_else, stand_at, list_at, minus_of, plus_of, integer_at, no_range, range_of, range_at}

-- ---- integers

-- another kind
pub integer-no : (s : Bytes) → ((get_or s 0 0 ≡ 58) → ⊥) → integer_at s ≡ None
unfolding integer_at
integer-no s h = rw (ne_eqb (get_or s 0 0) 58 h)

-- with a minus
pub integer-minus : (s : Bytes) (x : Option (ℕ × ℕ)) → get_or s 0 0 ≡ 58 → get_or s 1 0 ≡ 45 → num_def 9223372036854775808 s 2 ≡ x → integer_at s ≡ minus_of x
unfolding integer_at
integer-minus s x h g e = rw (h, g, e)

-- without one
pub integer-plus : (s : Bytes) (x : Option (ℕ × ℕ)) → get_or s 0 0 ≡ 58 → ((get_or s 1 0 ≡ 45) → ⊥) → num_def 9223372036854775807 s 1 ≡ x
    → integer_at s ≡ plus_of x
unfolding integer_at
integer-plus s x h g e = rw (h, ne_eqb (get_or s 1 0) 45 g, e)

-- nothing behind the colon
pub integer-short : (s : Bytes) → get_or s 0 0 ≡ 58 → length s < 2 → integer_at s ≡ None
integer-short s h l = integer-plus s _ h (λ z. let k = get_or-out s 1 (omega arith) in omega arith) (num-out _ s 1 (omega arith))

-- ---- blobs

-- another kind
pub range-no : (s : Bytes) → ((get_or s 0 0 ≡ 36) → ⊥) → range_at s ≡ no_range
unfolding range_at
range-no s h = rw (ne_eqb (get_or s 0 0) 36 h)

-- behind its length
pub range-is : (s : Bytes) (x : Option (ℕ × ℕ)) → get_or s 0 0 ≡ 36 → length_at s 1 ≡ x → range_at s ≡ num_case x (λ n e. range_of s n e) no_range
unfolding range_at
range-is s x h e = rw (h, e)

-- more than there are
pub range-past : (s : Bytes) (n e : ℕ) → length s - e < n → range_of s n e ≡ no_range
unfolding range_of
range-past s n e h = rw (lt-leb n (length s - e) h)

-- all there
pub range-in : (s : Bytes) (n e : ℕ) → n ≤ length s - e → range_of s n e ≡ record { start = e; end = e + n }
unfolding range_of
range-in s n e h = rw (le-leb n (length s - e) h)

-- ---- cursors and lists

-- no elements
pub stand-none : (s : Bytes) (at left : ℕ) → left ≡ 0 → stand_at s at left ≡ record { at = at; end = at; left = left }
unfolding stand_at
stand-none s at left h = rw (eq-eqb left 0 h)

-- some
pub stand-some : (s : Bytes) (at left : ℕ) (x : Option ℕ) → ((left ≡ 0) → ⊥) → value_end max_depth s at ≡ x
    → stand_at s at left ≡ record { at = at; end = end_else at x; left = left }
unfolding stand_at
stand-some s at left x h e = rw (ne_eqb left 0 h, e)

-- the end, or else `at`
pub end-or : (at : ℕ) (x : Option ℕ) → end_else at x ≡ unwrap_or x at
end-or at (Some e) = refl
end-or at None = refl

-- another first byte
pub list-no : (b : ℕ) (s : Bytes) → ((get_or s 0 0 ≡ b) → ⊥) → list_at b s ≡ None
unfolding list_at
list-no b s h = rw (ne_eqb (get_or s 0 0) b h)

-- behind its count
pub list-is : (b : ℕ) (s : Bytes) (x : Option (ℕ × ℕ)) → get_or s 0 0 ≡ b → length_at s 1 ≡ x
    → list_at b s ≡ num_case {A = Option Cursor} x (λ n e. Some (stand_at s e n)) None
unfolding list_at
list-is b s x h e = rw (eq-eqb (get_or s 0 0) b h, e)
