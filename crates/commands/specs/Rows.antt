-- Names of one length as they stand in one row of bytes, a bar before each: how the code keeps the names, with its laws. Assumes nothing.
use Rattle.std.specs.Prelude.{◌≡◌, refl, cond, List, [], ◌∷◌, ◌++◌, ℕ, eqb, length}
use Rattle.std.proofs.Common.{ap, eqb-true, eq-eqb}
use Rattle.buffer.specs.Cases.{by_test}
use Rattle.buffer.specs.Same.{Bytes, same}
use Rattle.buffer.specs.SameLaws.{same-eq}
use Rattle.commands.specs.Names.{member}

-- a bar and a name, for each name
unfoldable pub row : List Bytes → Bytes
row [] = []
row (x ∷ xs) = 124 ∷ (x ++ row xs)

-- those of the names that are n bytes long
unfoldable pub of_length : ℕ → List Bytes → List Bytes
of_length n [] = []
of_length n (x ∷ xs) = let rest = of_length n xs in cond (eqb (length x) n) (x ∷ rest) rest

-- every name is n bytes long
unfoldable pub EachOf : ℕ → List Bytes → Type 0
EachOf n [] = Unit {0}
EachOf n (x ∷ xs) = (length x ≡ n) × EachOf n xs

-- those that are n bytes long are
pub each-of-length : (n : ℕ) (xs : List Bytes) → EachOf n (of_length n xs)
unfolding of_length EachOf
each-of-length n [] = tt
each-of-length n (x ∷ xs) = by_test (eqb (length x) n) (λ e. rw e (eqb-true (length x) n e, each-of-length n xs)) (λ e. rw e (each-of-length n xs))

-- a name is one of them all if it is one of those of its length
pub member-of-length : (b : Bytes) (xs : List Bytes) → member b (of_length (length b) xs) ≡ member b xs
unfolding of_length member
member-of-length b [] = refl
member-of-length b (x ∷ xs) =
    by_test (same x b)
    (λ s. rw (eq-eqb (length x) (length b) (ap length (same-eq x b s)), s))
    (λ s. by_test (eqb (length x) (length b)) (λ e. rw (e, s) (member-of-length b xs)) (λ e. rw (e, s) (member-of-length b xs)))
