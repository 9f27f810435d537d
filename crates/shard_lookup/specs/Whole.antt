-- A command key that stands in one piece: the range that is all of its source. Assumes nothing.
use Rattle.std.specs.Prelude.{◌≡◌, length}
use Rattle.std.proofs.Common.{ap, ◌∙◌, zero-le, arith}
use Rattle.buffer.specs.Same.{Bytes}
use Rattle.buffer.specs.Part.{part}
use Rattle.buffer.specs.PartLaws.{part-all}
use Rattle.command_key.specs.Key.{key_bytes, KeyIn}
use Rattle.command_key.specs.declared.CommandKey.{CommandKey}
use Rattle.command_key.specs.declared.CommandKey.TheVariants.{Part}

-- all of the bytes s, as a command key
abbrev pub whole_key : Bytes → CommandKey
whole_key s = Part (record { start = 0; end = length s })

-- it lies in them
pub whole_in : (s : Bytes) → KeyIn s (whole_key s)
unfolding KeyIn
whole_in s = (zero-le, omega arith)

-- and is them
pub whole-bytes : (s : Bytes) → key_bytes s (whole_key s) ≡ s
unfolding key_bytes
whole-bytes s = ap (part s 0) (omega arith) ∙ part-all s
