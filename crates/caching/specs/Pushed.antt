-- A push as the exported function is given it. Assumes nothing: these are definitions.
use Rattle.std.specs.Prelude.{ℕ}
use Rattle.buffer.specs.Same.{Bytes}
use Rattle.book.specs.Book.{Counts}
use Rattle.single_calls.specs.Single.{Return}
use Rattle.call_entry.specs.Entered.{holding}
use Rattle.push.specs.Push.{push_call}

-- the push of these bytes, by a caller who holds the arena s and these counts; the next number, which it is not given, may be any
abbrev pub push_by : ℕ → ℕ → ℕ → Bytes → Bytes → Counts → ℕ → Return
push_by size mode ttl bytes s lent next = push_call size mode ttl bytes (holding s lent next)
