-- `call_record::word_end` meets its contract by its loop's invariant. Assumes nothing.
use mathlib.Core.Path.{◌≡◌}
use Prim.Native.Nat.{◌+◌, ◌≤◌}
use lib.ListN.{length, drop}
use Rattle.format.specs.Places.{word_end}
use Rattle.call_record.proofs.word_end.Given as goal

abbrev pub invariant-loop-k : goal.invariant-loop-k
invariant-loop-k l = (l.at + l.k ≤ length l.s) × (word_end l.word l.s l.at ≡ word_end (drop l.k l.word) l.s (l.at + l.k))
