-- Where the value that a single lookup serves stands in the arena that it leaves. Assumes nothing: these are definitions.
use Rattle.std.specs.Prelude.{ℕ, length, Result, Ok, Err}
use Rattle.std.proofs.Math.Option.{Option, none, some}
use Rattle.buffer.specs.Same.{Bytes}
use Rattle.config.specs.Config.{checked}
use Rattle.config.specs.declared.Cause.{Cause}
use Rattle.config.specs.declared.Settings.{Settings}
use Rattle.resp3.specs.Ends.{is_value}
use Rattle.book.specs.Book.{Setup, Row, lookup}
use Rattle.arena.specs.Decode.{decode}
use Rattle.arena.specs.Place.{arena_place}
use Rattle.arena.specs.Held.{Held}
use Rattle.sharded_lru.specs.Lent.{setup_now}
use Rattle.single_calls.specs.Single.{Return, single_call}

-- the place of key k's value for command key c in the rows that an arena was read as
unfoldable pub place_in : Setup → Bytes → Bytes → Option (ℕ → Row) → ℕ
place_in p k c none = 0
place_in p k c (some rows) = arena_place p k c rows

-- where a value is served; else the arena's start, where a part of no bytes stands
unfoldable pub served_at : Option Bytes → ℕ → ℕ
served_at none at = 0
served_at (some v) at = at

-- in the arena that a call left, which is read by the layout
unfoldable pub place_left : Setup → Bytes → Bytes → Return → ℕ
place_left p k c d = served_at d.value (place_in p k c (decode is_value p d.held.arena))

unfoldable pub place_under : Result Settings Cause → Bytes → Bytes → Return → ℕ
place_under (Err cause) k c d = 0
place_under (Ok g) k c d = place_left (setup_now g) k c d

-- the whole: size, mode's number, default TTL; key, command key, clock and epoch of the lookup; what the caller holds
unfoldable pub lookup_place : ℕ → ℕ → ℕ → Bytes → Bytes → ℕ → ℕ → Held → ℕ
lookup_place size mode ttl k c t e h = place_under (checked size mode ttl (length h.arena)) k c (single_call size mode ttl (lookup k c t e) h)
