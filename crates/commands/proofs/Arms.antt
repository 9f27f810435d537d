-- The arms of a match by a name's length: one law for each length that names of a list have, and one for all other lengths. Assumes nothing.
use mathlib.Core.Path.{◌≡◌, refl, sym, ap, ◌∙◌}
use mathlib.Core.Bool.{Bool, true, false, cond, false≢true}
use mathlib.Core.List.{List, [], ◌∷◌}
use Prim.Native.Nat.{ℕ}
use lib.Dec.{eqb}
use lib.ListN.{length}
use borrow.Author.Tests.{ne_eqb}
use Rattle.buffer.specs.Cases.{by_test}
use Rattle.buffer.specs.Same.{Bytes, same}
use Rattle.buffer.specs.SameLaws.{same-eq}
use Rattle.commands.specs.Names.{names, sole_key_names, all_ascii, read_only_cacheable, member, is_cacheable, takes_sole_key}
use Rattle.commands.specs.Rows.{row, of_length}

-- opens both lists of names and their rows, so that they compute
unfoldable pub open-names : Unit {0}
unfolding is_cacheable takes_sole_key read_only_cacheable all_ascii names sole_key_names row of_length
open-names = tt

-- an arm's row holds the names of n bytes, so it answers for a name of n bytes
pub arm : (xs : List Bytes) (b rows : Bytes) (n : ℕ) (r : Bool) → ((xs : List Bytes) → rows ≡ row (of_length (length b) xs) → r ≡ member b xs)
    → length b ≡ n → rows ≡ row (of_length n xs) → r ≡ member b xs
arm xs b rows n r f e w = f xs (w ∙ ap (λ (k : ℕ). row (of_length k xs)) (sym e))

-- a test that holds of every byte string of a list
abbrev pub every : (Bytes → Bool) → List Bytes → Bool
every f [] = true
every f (x ∷ xs) = cond (f x) (every f xs) false

-- such a test holds of each of its members
holds_of : (f : Bytes → Bool) (b : Bytes) (xs : List Bytes) → every f xs ≡ true → member b xs ≡ true → f b ≡ true
unfolding member
holds_of f b [] t m = absurd (false≢true m)
holds_of f b (x ∷ xs) t m =
    by_test (f x)
    (λ e.
    by_test (same x b)
    (λ s. rw (← same-eq x b s) e)
    (λ s. holds_of f b xs (rw e at t) (rw s at m)))
    (λ e. absurd (false≢true (rw e at t)))

-- whether n is one of the numbers
abbrev pub one_of : ℕ → List ℕ → Bool
one_of n [] = false
one_of n (k ∷ ks) = cond (eqb n k) true (one_of n ks)

-- what is known where no arm was taken: n is none of the numbers
abbrev pub NoneOf : List ℕ → ℕ → Type 0
NoneOf [] n = Unit {0}
NoneOf (k ∷ ks) n = NoneOf ks n × ((n ≡ k) → ⊥)

-- then the test says so
none_of : (n : ℕ) (ks : List ℕ) → NoneOf ks n → one_of n ks ≡ false
none_of n [] h = refl
none_of n (k ∷ ks) h = rw (ne_eqb n k h.1) (none_of n ks h.0)

-- where every name's length has an arm, a name of another length is none of them; ns are the arms' lengths, the last arm first
pub no_arm : (ns : List ℕ) (xs : List Bytes) (b : Bytes) → every (λ (x : Bytes). one_of (length x) ns) xs ≡ true → NoneOf ns (length b) → member b xs ≡ false
no_arm ns xs b e h =
    by_test (member b xs)
    (λ m. absurd (false≢true (sym (none_of (length b) ns h) ∙ holds_of (λ (x : Bytes). one_of (length x) ns) b xs e m)))
    (λ m. m)
