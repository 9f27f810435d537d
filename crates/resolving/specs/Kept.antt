-- The result is one RESP3 value, and what is stored is within the limits, where plan and replies are. Assumes nothing.
use Rattle.std.specs.Prelude.{Bool, List, [], ◌∷◌, ◌≤◌, ◌<◌, ◌^◌, length}
use Rattle.config.specs.Limits.{max_key, max_command_key, max_bytes, max_depth}
use Rattle.resp3.specs.Value.{Value, depth, Valid, encode, IsValue}
use Rattle.book.specs.Calls.{Missing, Storing}
use Rattle.resolving.specs.Plan.{Plan}
use Rattle.resolving.specs.Resolve.{Resolved, cause7, answered}
use Rattle.resolving.specs.Result.{result_of}
use Rattle.resolving.specs.Made.{CommandsHave}

-- what the replies are, once 6 is ruled out, and every part of them: a value within the limits
pub record Sent (v : Value) : Type 0 where
  pub ok : Valid v
  pub deep : depth v ≤ max_depth
  pub small : length (encode v) ≤ max_bytes

-- what a missing key of a plan is, by docs/LAYOUT.md's rules
pub record Asked (m : Missing) : Type 0 where
  pub key : length m.wanted.key ≤ max_key
  pub command : length m.wanted.command ≤ max_command_key
  pub expiry : m.expiry < 2 ^ 64

-- a plan whose missing keys are within the limits and whose served values are RESP3 values
abbrev pub Within : Plan → Type 0
Within p = CommandsHave Sent Asked Valid p.commands

-- what may be stored
pub record Storable (s : Storing) : Type 0 where
  pub key : length s.wanted.key ≤ max_key
  pub command : length s.wanted.command ≤ max_command_key
  pub value : IsValue s.value
  pub expiry : s.expiry < 2 ^ 64

-- each of them
abbrev pub AllStorable : List Storing → Type 0
AllStorable [] = Unit {0}
AllStorable (s ∷ ss) = Storable s × AllStorable ss

-- what becomes of a plan: a RESP3 value, and stores within the limits
abbrev pub Kept : Bool → Resolved → Type 0
Kept transaction (cause7 ss) = AllStorable ss
Kept transaction (answered vs ss) = Valid (result_of transaction vs) × AllStorable ss
