-- `buffer::fill_zero` meets its contract. The loop's invariant: the bytes of the range that are passed are zeros. Assumes nothing.
use Rattle.std.proofs.Common.{◌≡◌, take, replicate}
use Rattle.buffer.proofs.fill_zero.Given as goal

abbrev pub invariant-loop-byte : goal.invariant-loop-byte
invariant-loop-byte l = take l.byte-index l.byte-items ≡ replicate l.byte-index 0
