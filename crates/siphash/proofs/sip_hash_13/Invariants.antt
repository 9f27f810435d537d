-- `sip_hash_13` meets its contract. The loop's invariant: the state has taken in the words that are passed. Assumes nothing.
use Rattle.std.proofs.Common.{◌≡◌}
use Rattle.siphash.specs.Sip.{absorbed}
use Rattle.siphash.proofs.sip_hash_13.Given as goal

abbrev pub invariant-loop-word : goal.invariant-loop-word
invariant-loop-word l = l.s ≡ absorbed 1 0 0 l.key l.word-index
