-- The counts and the next number stay below 2^64, and a store leaves the counts as they were: a call that only stores need not be given them. Assumes that
-- the counts first lent are of 64 bits.
use Rattle.std.specs.Prelude.{◌≡◌, refl, ℕ, ◌+◌, ◌^◌, ◌<◌, Bool, true, false, List, [], ◌∷◌}
use Rattle.std.proofs.Common.{ap, ◌∙◌, mod-lt, mod-eq_of_lt, arith, lit<}
use Rattle.buffer.specs.Same.{Bytes}
use Rattle.config.specs.Wrap.{wrap}
use Rattle.book.specs.Book.{Row, Setup, Book, Counts, plus, store, Event, on, invalidate_all, new_epoch, fresh, if_fits, effect_on, effect, count, put, after}
use Rattle.book.specs.Calls.{run}
use Rattle.book.specs.Counted.{Counted}

-- what wraps is below 2^64
wrap-below : (n : ℕ) → wrap n < 2 ^ 64
wrap-below n = mod-lt n (lit< tt)

-- counts that were added to are of 64 bits
counted : (was adds : Counts) → Counted (count was adds)
unfolding count
counted was adds = record { hits = wrap-below _; misses = wrap-below _; invalidates = wrap-below _ }

-- whatever happens, the counts are of 64 bits
pub counted-run : (p : Setup) (lent : Counts) → Counted lent → (h : List Event) → Counted (run p (fresh lent) h).counts
unfolding run fresh after put
counted-run p lent w [] = w
counted-run p lent w (on q ∷ h) = counted _ _
counted-run p lent w (invalidate_all ∷ h) = counted _ _
counted-run p lent w (new_epoch ∷ h) = counted-run p lent w h

-- and so is the next number
pub next-run : (p : Setup) (lent : Counts) (h : List Event) → (run p (fresh lent) h).next < 2 ^ 64
unfolding run fresh after put
next-run p lent [] = lit< tt
next-run p lent (on q ∷ h) = next-run p lent h
next-run p lent (invalidate_all ∷ h) = next-run p lent h
next-run p lent (new_epoch ∷ h) = wrap-below _

-- adding nothing changes no number of 64 bits
wrap-none : (n : ℕ) → n < 2 ^ 64 → wrap (n + 0) ≡ n
wrap-none n l = ap wrap (omega arith) ∙ mod-eq_of_lt l

-- and none of the counts
count_none : (was : Counts) → Counted was → count was (plus 0 0 0) ≡ was
unfolding count
count_none was w =
    λ i.
    record {
      hits = wrap-none was.hits w.hits i;
      misses = wrap-none was.misses w.misses i;
      invalidates = wrap-none was.invalidates w.invalidates i;
    }

-- no store counts anything, nor what it drops (rule B11)
pub fit-adds : (b : Bool) (new old : Row) → (if_fits b new old).adds ≡ plus 0 0 0
unfolding if_fits
fit-adds true new old = refl
fit-adds false new old = refl

-- a store leaves the counts
pub store-counts : (p : Setup) (k c v : Bytes) (x e : ℕ) (bk : Book) → Counted bk.counts → (after p (on (store k c v x e)) bk).counts ≡ bk.counts
unfolding after put effect effect_on
store-counts p k c v x e bk w = ap (count bk.counts) (fit-adds _ _ _) ∙ count_none bk.counts w
