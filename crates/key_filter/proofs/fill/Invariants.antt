-- `key_filter::fill` meets its contract: shard by shard, with the bits of those passed set. Assumes nothing.
use mathlib.Core.Path.{◌≡◌}
use lib.ListN.{length}
use Rattle.key_filter.proofs.Paths.{MarkedTo}
use Rattle.key_filter.proofs.fill.Given as goal

abbrev pub invariant-loop-i : goal.invariant-loop-i
invariant-loop-i l = MarkedTo l.g l.arena l.seen l.i × (length l.seen ≡ length l.initial.seen)
