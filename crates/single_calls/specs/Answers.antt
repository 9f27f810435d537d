-- What the answers of this crate's functions stand for: the cause's number and the values for every case. Assumes nothing: these are definitions.
use Rattle.std.specs.Prelude.{◌≡◌, ℕ, ◌+◌, ◌-◌, ◌≤◌, length, Result, Ok, Err, Option as Maybe, Some, None}
use Rattle.std.proofs.Math.Option.{Option, none, some}
use Rattle.buffer.specs.Same.{Bytes}
use Rattle.buffer.specs.Part.{part}
use Rattle.config.specs.Causes.{number, cause_numbered}
use Rattle.config.specs.declared.Cause.{Cause}
use Rattle.cursor.specs.declared.Range.{Range}
use Rattle.statistics.specs.OfBook.{counts_of, adding}
use Rattle.statistics.specs.declared.Statistics.{Statistics}
use Rattle.shard_lookup.specs.Looked.{adds_by}
use Rattle.shard_lookup.specs.declared.Looked.{Looked}
use Rattle.shard_lookup.specs.declared.Looked.TheVariants.{Hit as Got, Miss as Missed}
use Rattle.single_calls.specs.declared.LookedUp.{LookedUp}
use Rattle.single_calls.specs.declared.Invalidated.{Invalidated}
use Rattle.call_entry.specs.Entered.{no_cause}
use Rattle.single_calls.specs.Single.{Return}

-- the cause's number in a store's or an invalidation's answer
abbrev pub answer_number : Result (Unit {0}) Cause → ℕ
answer_number (Ok done) = no_cause
answer_number (Err cause) = number cause

-- x, unless there is a cause that refuses it
abbrev pub unless : {T : Type 0} → Maybe Cause → T → Result T Cause
unless None x = Ok x
unless (Some cause) x = Err cause

-- the answer that a call's return asks for: done exactly where no cause refuses the call, else the cause of its number
abbrev pub answered_of : Return → Result (Unit {0}) Cause
answered_of d = unless (cause_numbered d.cause) tt

-- a store or an invalidation answered `r` and left the arena `s`, as the call's return says
pub record Left (d : Return) (s : Bytes) (r : Result (Unit {0}) Cause) : Type 0 where
  pub answer : r ≡ answered_of d
  pub cause : answer_number r ≡ d.cause
  pub arena : s ≡ d.held.arena

-- the cause's number in a lookup's answer
abbrev pub found_number : Result (Maybe Range) Cause → ℕ
found_number (Ok found) = no_cause
found_number (Err cause) = number cause

-- the value that it serves: the bytes of the arena s in the range
abbrev pub found_value : Bytes → Result (Maybe Range) Cause → Option Bytes
found_value s (Ok (Some r)) = some (part s r.start (r.end - r.start))
found_value s (Ok None) = none
found_value s (Err cause) = none

-- where that part begins; at the arena's start where nothing is served
abbrev pub found_place : Result (Maybe Range) Cause → ℕ
found_place (Ok (Some r)) = r.start
found_place (Ok None) = 0
found_place (Err cause) = 0

-- the answer that a lookup's return asks for, with its value at the place `at`: a range of as many bytes as the value has, or none; refused exactly where a
-- cause refuses it
abbrev pub served_as : Option Bytes → ℕ → Maybe Range
served_as none at = None
served_as (some v) at = Some (record { start = at; end = at + length v })

abbrev pub found_of : Return → ℕ → Result (Maybe Range) Cause
found_of d at = unless (cause_numbered d.cause) (served_as d.value at)

-- what a lookup returns where the shards answered `found`: the answer, and the counts with a hit more, or a miss and the entries dropped
abbrev pub looked_up : Statistics → Looked → LookedUp
looked_up s (Got from to) = record { found = Ok (Some (record { start = from; end = to })); counts = adding s (adds_by (Got from to)) }
looked_up s (Missed n) = record { found = Ok None; counts = adding s (adds_by (Missed n)) }

-- its places are within n bytes
abbrev pub FoundIn : ℕ → Result (Maybe Range) Cause → Type 0
FoundIn n (Ok (Some r)) = (r.start ≤ r.end) × (r.end ≤ n)
FoundIn n (Ok None) = Unit {0}
FoundIn n (Err cause) = Unit {0}

-- a lookup answered `r` and left the arena `s`, as the call's return says, the value that it serves at the place `at`
pub record LookupLeft (d : Return) (at : ℕ) (s : Bytes) (r : LookedUp) : Type 0 where
  pub answer : r.found ≡ found_of d at
  pub cause : found_number r.found ≡ d.cause
  pub value : found_value s r.found ≡ d.value
  pub place : found_place r.found ≡ at
  pub within : FoundIn (length s) r.found
  pub arena : s ≡ d.held.arena
  pub counts : counts_of r.counts ≡ d.held.counts

-- so for an invalidation, which returns the counts too
pub record InvalidationLeft (d : Return) (s : Bytes) (r : Invalidated) : Type 0 where
  pub answer : r.answer ≡ answered_of d
  pub cause : answer_number r.answer ≡ d.cause
  pub arena : s ≡ d.held.arena
  pub counts : counts_of r.counts ≡ d.held.counts
