-- The counts as callers keep them and as the book does are added to alike. Assumes nothing.
use Rattle.std.specs.Prelude.{◌≡◌, refl}
use Rattle.book.specs.Book.{Counts, count}
use Rattle.statistics.specs.declared.Statistics.{Statistics}
use Rattle.statistics.specs.OfBook.{counts_of, adding}

-- they are then what the book counts
pub adding-counts : (s : Statistics) (adds : Counts) → counts_of (adding s adds) ≡ count (counts_of s) adds
unfolding count
adding-counts s adds = refl
