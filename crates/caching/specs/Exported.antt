-- What the exported functions return and leave, from what the calls below them return. Numbers and bytes alone cross the border. Assumes nothing: these are
-- definitions.
use Rattle.std.specs.Prelude.{ℕ, ◌-◌, [], Result, Ok, Err, Option as Maybe, Some, None}
use Rattle.std.proofs.Math.Option.{Option, none, some}
use Rattle.buffer.specs.Same.{Bytes}
use Rattle.buffer.specs.Part.{part}
use Rattle.config.specs.Causes.{number}
use Rattle.config.specs.declared.Cause.{Cause}
use Rattle.cursor.specs.declared.Range.{Range}
use Rattle.book.specs.Book.{Counts, lookup, store, invalidate}
use Rattle.call_entry.specs.Entered.{no_cause, holding}
use Rattle.single_calls.specs.Single.{Return, single_call}
use Rattle.single_calls.specs.declared.NewCache.{NewCache}
use Rattle.caching.specs.declared.RedisCacheSetup.{RedisCacheSetup}
use Rattle.caching.specs.declared.RedisCacheLookup.{RedisCacheLookup}

-- ---- setup

-- the cause's number, the epoch taken and the next number; a setup that is refused takes none
abbrev pub setup_return : Result NewCache Cause → RedisCacheSetup
setup_return (Ok fresh) = record { cause = no_cause; epoch = fresh.epoch; next = fresh.next }
setup_return (Err cause) = record { cause = number cause; epoch = 0; next = 0 }

-- ---- lookup

-- 1 where a value is served, else 0
abbrev pub flag_of : Option Bytes → ℕ
flag_of (some v) = 1
flag_of none = 0

-- the value's bytes; none where nothing is served
abbrev pub bytes_of : Option Bytes → Bytes
bytes_of (some v) = v
bytes_of none = []

-- what an answer is returned as
abbrev pub lookup_return : Result (Maybe Range) Cause → RedisCacheLookup
lookup_return (Ok (Some r)) = record { cause = no_cause; hit = 1 }
lookup_return (Ok None) = record { cause = no_cause; hit = 0 }
lookup_return (Err cause) = record { cause = number cause; hit = 0 }

-- where the bytes that it serves begin, and those bytes; a part of no bytes at the arena's start where there are none
abbrev pub start_of : Result (Maybe Range) Cause → ℕ
start_of (Ok (Some r)) = r.start
start_of (Ok None) = 0
start_of (Err cause) = 0

abbrev pub served_bytes : Bytes → Result (Maybe Range) Cause → Bytes
served_bytes s (Ok (Some r)) = part s r.start (r.end - r.start)
served_bytes s (Ok None) = []
served_bytes s (Err cause) = []

-- ---- the single calls of these arguments, by a caller who holds the arena s and these counts. What a call is not given, the next number and a store's counts,
-- may be any

abbrev pub lookup_by : ℕ → ℕ → ℕ → ℕ → ℕ → Bytes → Bytes → Bytes → Counts → ℕ → Return
lookup_by size mode ttl clock epoch key command s lent next = single_call size mode ttl (lookup key command clock epoch) (holding s lent next)

abbrev pub store_by : ℕ → ℕ → ℕ → ℕ → Bytes → Bytes → Bytes → ℕ → Bytes → Counts → ℕ → Return
store_by size mode ttl epoch key command value expiry s lent next = single_call size mode ttl (store key command value expiry epoch) (holding s lent next)

abbrev pub invalidate_by : ℕ → ℕ → ℕ → Bytes → Bytes → Counts → ℕ → Return
invalidate_by size mode ttl key s lent next = single_call size mode ttl (invalidate key) (holding s lent next)
