-- Where a record goes wrong is the first of the offsets that the scope document lets a check answer (request 7 takes the others away). Assumes nothing.
use Rattle.std.specs.Prelude.{◌≡◌, ◌⊎◌, ◌↔◌, ℕ, ◌≤◌, ◌<◌, length}
use Rattle.std.proofs.Common.{subst, inl, inr, ⊎_elim, arith}
use Rattle.buffer.specs.Same.{Bytes}
use Rattle.call_record.specs.Offset.{IsRecord, NoneBegins, EndsEarly, WrongAt, breaks, cut_short}
use Rattle.call_record.specs.Check.{wrong-begins, wrong-inside, none-longer, record-begins, record-right, exactly-one}

-- an offset that it allows: past the byte there no valid record can be reached any more, or it is the length and only the rest is lacking
abbrev pub Allowed : Bytes → ℕ → Type 0
Allowed s o = ((o < length s) × NoneBegins s o) ⊎ ((o ≡ length s) × EndsEarly s)

-- the first of them
pub record FirstAllowed (s : Bytes) (o : ℕ) : Type 0 where
  pub allowed : Allowed s o
  pub first : (p : ℕ) → Allowed s p → o ≤ p

-- where bytes go wrong is allowed
wrong-allowed : (s : Bytes) (o : ℕ) → WrongAt s o → Allowed s o
wrong-allowed s o (breaks l b n) = inl (l, n)
wrong-allowed s o (cut_short h e) = inr (h, e)

-- and nothing before it is
none-earlier : (s : Bytes) (o p : ℕ) → WrongAt s o → Allowed s p → p < o → ⊥
none-earlier s o p w a h =
    let i = wrong-inside s o w in
    ⊎_elim (λ x. none-longer s p o h i (wrong-begins s o w) x.1) (λ x. let e = x.0 in omega arith) a

-- so it is the first
wrong-is-first : (s : Bytes) (o : ℕ) → WrongAt s o → FirstAllowed s o
wrong-is-first s o w = record { allowed = wrong-allowed s o w; first = λ p a. not-less o p (none-earlier s o p w a) }
  where
    not-less : (o p : ℕ) → (p < o → ⊥) → o ≤ p
    not-less o p f = omega arith

-- of a valid record's bytes none is
record-none : (s : Bytes) (o : ℕ) → Allowed s o → IsRecord s → ⊥
record-none s o a w = ⊎_elim (λ x. record-begins s w o x.1) (λ x. record-right s w o (cut_short x.0 x.1)) a

-- THE FIRST: bytes go wrong at o exactly where o is the first that is allowed
pub wrong_first : (s : Bytes) (o : ℕ) → WrongAt s o ↔ FirstAllowed s o
wrong_first s o = (λ w. wrong-is-first s o w, λ f. back f)
  where
    same : (o p : ℕ) → o ≤ p → p ≤ o → o ≡ p
    same o p h l = omega arith

    back : FirstAllowed s o → WrongAt s o
    back f =
        let u = exactly-one s (record-none s o f.allowed) in
        let h = wrong-is-first s u.offset u.wrong in
        subst (WrongAt s) (same u.offset o (h.first o f.allowed) (f.first u.offset h.allowed)) u.wrong
