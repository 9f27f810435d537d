-- What is kept of a sum that wraps. Assumes nothing: this is a definition.
use Rattle.std.specs.Prelude.{ℕ, ◌%◌, ◌^◌}

-- a number as 64 bits hold it: the three counts, the epoch number and the sums of the hash wrap so
abbrev pub wrap : ℕ → ℕ
wrap n = n % 2 ^ 64
