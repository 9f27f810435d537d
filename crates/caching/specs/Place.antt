-- Where the value that an exported lookup serves stands in the lent arena: single_calls' definition of the arguments, and what it is to be a part of that
-- arena. Assumes nothing: these are definitions.
use Rattle.std.specs.Prelude.{◌≡◌, ℕ, ◌+◌, ◌≤◌, length}
use Rattle.buffer.specs.Same.{Bytes}
use Rattle.buffer.specs.Part.{part}
use Rattle.book.specs.Book.{Counts}
use Rattle.single_calls.specs.Place.{lookup_place}
use Rattle.call_entry.specs.Entered.{holding}

-- for a caller who holds the arena s; counts and next number may be any, they do not move it
abbrev pub place_by : ℕ → ℕ → ℕ → ℕ → ℕ → Bytes → Bytes → Bytes → Counts → ℕ → ℕ
place_by size mode ttl clock epoch key command s lent next = lookup_place size mode ttl key command clock epoch (holding s lent next)

-- the bytes v, lent from the address p on, are the part at `place` of an arena that was lent n bytes long from the address a on, and that the call left as
-- u: the same memory, inside it, and what stands there
abbrev pub PartAt : ℕ → ℕ × ℕ → Bytes → ℕ × ℕ → ℕ → Bytes → Type 0
PartAt place p v a n u = (p.0 ≡ a.0) × (p.1 ≡ place + a.1) × (place + length v ≤ n) × (v ≡ part u place (length v))
