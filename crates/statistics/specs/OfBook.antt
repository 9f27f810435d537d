-- The counts as the book has them, and what is added to them. Assumes nothing: these are definitions.
use Rattle.book.specs.Book.{Counts}
use Rattle.statistics.specs.Counts.{more_of}
use Rattle.statistics.specs.declared.Statistics.{Statistics}

-- the three counts of the book
abbrev pub counts_of : Statistics → Counts
counts_of s = record { hits = s.hit; misses = s.miss; invalidates = s.invalidate }

-- the counts with what the book adds
abbrev pub adding : Statistics → Counts → Statistics
adding s adds = more_of s adds.hits adds.misses adds.invalidates
