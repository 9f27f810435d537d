-- What reading a canonical number with its CR LF finds. Assumes nothing: these are definitions. That they are right is said by
-- num-law (NumLaw.antt: what is written is read) and num-sound (NumSound.antt: what is read is a number's digits and CR LF).
use Rattle.std.specs.Prelude.{Bool, true, false, cond, List, [], ◌∷◌, ℕ, suc, ◌+◌, ◌*◌, ◌-◌, leb, eqb, get_or, drop, Option, Some, None}

-- both tests hold
abbrev pub both : Bool → Bool → Bool
both true b = b
both false b = false

-- an ASCII digit, `0` to `9`
abbrev pub digit_b : ℕ → Bool
digit_b x = both (leb 48 x) (leb x 57)

-- CR LF stands at i. (Past the end get_or gives 0, which is neither.)
unfoldable pub crlf_b : List ℕ → ℕ → Bool
crlf_b s i = both (eqb (get_or s i 0) 13) (eqb (get_or s (i + 1) 0) 10)

-- how many digits the list begins with
abbrev pub lead : List ℕ → ℕ
lead [] = 0
lead (x ∷ xs) = cond (digit_b x) (suc (lead xs)) 0

-- the value of those digits behind digits of value a
abbrev pub val_acc : ℕ → List ℕ → ℕ
val_acc a [] = a
val_acc a (x ∷ xs) = cond (digit_b x) (val_acc (a * 10 + (x - 48)) xs) a

-- the one answer or the other
abbrev pub num_if : Bool → Option (ℕ × ℕ) → Option (ℕ × ℕ) → Option (ℕ × ℕ)
num_if true a b = a
num_if false a b = b

-- a number v whose digits end at e is read, up to behind its CR LF, if CR LF stands there
unfoldable pub ended_def : List ℕ → ℕ → ℕ → Option (ℕ × ℕ)
ended_def s e v = num_if (crlf_b s e) (Some (v, e + 2)) None

-- and if it is no more than lim
unfoldable pub fin_def : ℕ → List ℕ → ℕ → ℕ → Option (ℕ × ℕ)
fin_def lim s e v = num_if (leb v lim) (ended_def s e v) None

-- the number at `at`: a `0` alone, or all the digits that stand there, at least one
unfoldable pub num_def : ℕ → List ℕ → ℕ → Option (ℕ × ℕ)
num_def lim s at =
    num_if (eqb (get_or s at 0) 48)
    (fin_def lim s (at + 1) 0)
    (num_if (eqb (lead (drop at s)) 0) None (fin_def lim s (at + lead (drop at s)) (val_acc 0 (drop at s))))

-- the value of the digits at `at`, and the place after them: a `0` alone, or all the digits that stand there, at least one, of no more than lim
unfoldable pub digits_at : ℕ → List ℕ → ℕ → Option (ℕ × ℕ)
digits_at lim s at =
    num_if (eqb (get_or s at 0) 48)
    (Some (0, at + 1))
    (num_if (eqb (lead (drop at s)) 0) None
    (num_if (leb (val_acc 0 (drop at s)) lim) (Some (val_acc 0 (drop at s), at + lead (drop at s))) None))
