-- Counts of 64 bits. Assumes nothing: this is a definition.
use Rattle.std.specs.Prelude.{◌^◌, ◌<◌}
use Rattle.book.specs.Book.{Counts}

-- three numbers of 64 bits
pub record Counted (c : Counts) : Type 0 where
  pub hits : c.hits < 2 ^ 64
  pub misses : c.misses < 2 ^ 64
  pub invalidates : c.invalidates < 2 ^ 64
