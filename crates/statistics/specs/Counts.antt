-- The three counts: what an increase makes of them, and what a reader is shown. Assumes nothing: these are definitions.
use Rattle.std.specs.Prelude.{ℕ, ◌+◌}
use Rattle.config.specs.Wrap.{wrap}
use Rattle.statistics.specs.declared.Statistics.{Statistics}
use Rattle.statistics.specs.declared.CacheStatistics.{CacheStatistics}

-- n more hits, wrapping; the other counts stay
abbrev pub more_hit : Statistics → ℕ → Statistics
more_hit s n = record { hit = wrap (s.hit + n); miss = s.miss; invalidate = s.invalidate }

-- n more misses, wrapping; the other counts stay
abbrev pub more_miss : Statistics → ℕ → Statistics
more_miss s n = record { hit = s.hit; miss = wrap (s.miss + n); invalidate = s.invalidate }

-- n more invalidated entries, wrapping; the other counts stay
abbrev pub more_invalidate : Statistics → ℕ → Statistics
more_invalidate s n = record { hit = s.hit; miss = s.miss; invalidate = wrap (s.invalidate + n) }

-- so many more of each, wrapping
abbrev pub more_of : Statistics → ℕ → ℕ → ℕ → Statistics
more_of s hits misses invalidates = more_invalidate (more_miss (more_hit s hits) misses) invalidates

-- as many more as other counts say
abbrev pub more : Statistics → Statistics → Statistics
more s n = more_of s n.hit n.miss n.invalidate

-- the counts as a reader is shown them: each under its own name
abbrev pub reading : Statistics → CacheStatistics
reading s = record { hit = s.hit; miss = s.miss; invalidate = s.invalidate }
