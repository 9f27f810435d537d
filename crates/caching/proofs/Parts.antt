-- What an exported lookup hands out, by the answer of the call below it. Assumes nothing.
use Rattle.std.proofs.Common.{◌≡◌, ℕ, ◌+◌, ◌-◌, ◌≤◌, length, sym, refl, ap, ◌∙◌, subst, arith}
use Rattle.buffer.specs.Same.{Bytes}
use Rattle.buffer.specs.Part.{part}
use Rattle.buffer.specs.PartLaws.{length_part}
use Rattle.std.specs.Prelude.{Result, Ok, Err, Option as Maybe, Some, None}
use Rattle.config.specs.declared.Cause.{Cause}
use Rattle.cursor.specs.declared.Range.{Range}
use Rattle.single_calls.specs.Answers.{found_number, found_value, found_place, FoundIn}
use Rattle.caching.specs.Exported.{flag_of, bytes_of, lookup_return, start_of, served_bytes}

-- ---- a lookup's answer

pub cause-of : (f : Result (Maybe Range) Cause) → (lookup_return f).cause ≡ found_number f
cause-of (Ok (Some r)) = refl
cause-of (Ok None) = refl
cause-of (Err cause) = refl

pub flag-of : (s : Bytes) (f : Result (Maybe Range) Cause) → (lookup_return f).hit ≡ flag_of (found_value s f)
flag-of s (Ok (Some r)) = refl
flag-of s (Ok None) = refl
flag-of s (Err cause) = refl

pub bytes-of : (s : Bytes) (f : Result (Maybe Range) Cause) → served_bytes s f ≡ bytes_of (found_value s f)
bytes-of s (Ok (Some r)) = refl
bytes-of s (Ok None) = refl
bytes-of s (Err cause) = refl

-- what it serves is a part of the arena
within-arena : (s : Bytes) (f : Result (Maybe Range) Cause) → FoundIn (length s) f
    → (start_of f + length (served_bytes s f) ≤ length s) × (served_bytes s f ≡ part s (start_of f) (length (served_bytes s f)))
within-arena s (Ok (Some r)) w =
    let a = w.0 in
    let b = w.1 in
    let n : length (part s r.start (r.end - r.start)) ≡ r.end - r.start = length_part s r.start (r.end - r.start) (omega arith) in
    (omega arith, ap (part s r.start) (sym n))
within-arena s (Ok None) w = (omega arith, unfold part in refl)
within-arena s (Err cause) w = (omega arith, unfold part in refl)

-- it begins at the answer's place
pub start-of : (f : Result (Maybe Range) Cause) → start_of f ≡ found_place f
start-of (Ok (Some r)) = refl
start-of (Ok None) = refl
start-of (Err cause) = refl

-- so are the bytes x that it is handed out as, of an arena that kept its length
pub part-there : (s u x : Bytes) (f : Result (Maybe Range) Cause) → x ≡ served_bytes u f → length u ≡ length s → FoundIn (length u) f
    → (start_of f + length x ≤ length s) × (x ≡ part u (start_of f) (length x))
part-there s u x f e n w =
    let i = within-arena u f w in
    let m : length x ≡ length (served_bytes u f) = ap length e in
    let a = i.0 in
    (omega arith, e ∙ i.1 ∙ ap (part u (start_of f)) (sym m))

-- the same told of a place j that is where it begins, y being x bytes behind it
pub part_at : (i j x y n : ℕ) (u bs : Bytes) → i ≡ j → y ≡ i + x → i + length bs ≤ n → bs ≡ part u i (length bs)
    → (y ≡ j + x) × (j + length bs ≤ n) × (bs ≡ part u j (length bs))
part_at i j x y n u bs e a b c = subst (λ (k : ℕ). (y ≡ k + x) × (k + length bs ≤ n) × (bs ≡ part u k (length bs))) e (a, b, c)
