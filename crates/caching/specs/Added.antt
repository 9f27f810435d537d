-- What a call adds to the counts record that the caller lends: the functions behind the exports return it, and the record is increased by it. Assumes nothing:
-- these are definitions.
use Rattle.std.specs.Prelude.{◌≡◌}
use Rattle.buffer.specs.Same.{Bytes}
use Rattle.statistics.specs.declared.Statistics.{Statistics}
use Rattle.statistics.specs.Counts.{more}
use Rattle.single_calls.specs.Single.{Return}
use Rattle.statistics.specs.OfBook.{counts_of}
use Rattle.single_calls.specs.Answers.{answer_number}
use Rattle.single_calls.specs.declared.Invalidated.{Invalidated}
use Rattle.caching.specs.declared.Added.{Added}
use Rattle.caching.specs.declared.LookupAdded.{LookupAdded}
use Rattle.caching.specs.Exported.{flag_of, bytes_of}

-- counts of which nothing was counted yet
abbrev pub none_yet : Statistics
none_yet = record { hit = 0; miss = 0; invalidate = 0 }

-- what a call that began with these counts comes to
abbrev pub added_by : Invalidated → Added
added_by r = record { cause = answer_number r.answer; adds = r.counts }

-- a call that was lent the record `was` returned the number and left the arena s, as its return d says; and the record increased by what is added is what d
-- says
pub record AddedLeft (d : Return) (s : Bytes) (was : Statistics) (r : Added) : Type 0 where
  pub cause : r.cause ≡ d.cause
  pub arena : s ≡ d.held.arena
  pub counts : counts_of (more was r.adds) ≡ d.held.counts

-- so of a lookup that handed out the value's bytes v and the arena u
pub record LookupGiven (d : Return) (v u : Bytes) (was : Statistics) (r : LookupAdded) : Type 0 where
  pub cause : r.answer.cause ≡ d.cause
  pub hit : r.answer.hit ≡ flag_of d.value
  pub served : v ≡ bytes_of d.value
  pub arena : u ≡ d.held.arena
  pub counts : counts_of (more was r.adds) ≡ d.held.counts
