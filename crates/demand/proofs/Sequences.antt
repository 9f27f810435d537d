-- Sequences of calls taken apart: the calls before some others, and the book's calls for them. Assumes nothing.
use Rattle.std.specs.Prelude.{◌≡◌, ℕ}
use Rattle.std.proofs.Math.Path.{refl, ap}
use mathlib.Core.List.{List, [], ◌∷◌, ◌++◌}
use Rattle.format.specs.Lists.{All}
use Rattle.book.specs.Book.{Setup, Book}
use Rattle.book.specs.Calls.{Call, after_call, after_calls}
use Rattle.demand.specs.Call.{RealCall, Given, book_call, book_calls}

-- the first of given calls are given calls
pub given-front : (front back : List RealCall) → All Given (front ++ back) → All Given front
given-front [] back g = tt
given-front (c ∷ front) back g = (g.0, given-front front back g.1)

module _ (size n : ℕ) where
  -- the book's calls for some calls and then others
  pub calls-append : (front back : List RealCall) → book_calls size n (front ++ back) ≡ book_calls size n front ++ book_calls size n back
  unfolding book_calls
  calls-append [] back = refl
  calls-append (c ∷ front) back = ap (λ (z : List Call). book_call size n c ∷ z) (calls-append front back)

  -- the book's call for the last of some calls comes last
  pub book-last : (p : Setup) (before : List RealCall) (c : RealCall) (bk : Book)
      → after_calls p (book_calls size n (before ++ (c ∷ []))) bk ≡ after_call p (book_call size n c) (after_calls p (book_calls size n before) bk)
  unfolding book_calls after_calls
  book-last p [] c bk = refl
  book-last p (b ∷ before) c bk = book-last p before c (after_call p (book_call size n b) bk)
