-- What resolving is given of planning's outcomes: each command as resolving sees it, and its missing keys. Assumes nothing: these are the definitions
-- that a reader has to believe; they speak of no bytes and no nodes.
use Rattle.std.specs.Prelude.{Bool, List, [], ◌∷◌, ◌++◌, map, ℕ}
use Rattle.buffer.specs.Same.{Bytes}
use Rattle.resp3.specs.Value.{Values, none, more}
use Rattle.resp3.specs.Decode.{decode}
use Rattle.book.specs.Calls.{Missing, missing_until}
use Rattle.planning.specs.Outcome as outcome
use Rattle.planning.specs.Outcome.{Served, CacheableCommand, CachingResult}
use Rattle.resolving.specs.Plan.{Place, served, waiting, Command, handed_on, cached, cached_array, single, multiple, Plan}

-- values that are all served
unfoldable pub values_given : List Bytes → Values
values_given [] = none
values_given (v ∷ vs) = more (decode v) (values_given vs)

-- places, of which each one that waits has the command's client expiry
unfoldable pub place_given : ℕ → outcome.Place → Place
place_given x (outcome.filled v) = served (decode v)
place_given x (outcome.waiting w) = waiting (missing_until x w)

-- one command
unfoldable pub served_given : Served → Command
served_given (outcome.value v) = cached (decode v)
served_given (outcome.values vs) = cached_array (values_given vs)

unfoldable pub missing_given : CacheableCommand → Command
missing_given (outcome.single w x) = single (missing_until x w)
missing_given (outcome.multiple n ps path x) = multiple (map (place_given x) ps)

unfoldable pub command_given : CachingResult → Command
command_given outcome.ignored = handed_on
command_given (outcome.item outcome.not_cacheable) = handed_on
command_given (outcome.item (outcome.cached a)) = served_given a
command_given (outcome.item (outcome.not_cached cc)) = missing_given cc

-- all commands, and whether they are a transaction
unfoldable pub plan_given : Bool → List CachingResult → Plan
plan_given b rs = record { transaction = b; commands = map command_given rs }

-- ---- The missing keys of a planning, which resolving finds in its plan (rule P19)

-- the missing keys of a plan, in their order
unfoldable pub places_missing : List Place → List Missing
places_missing [] = []
places_missing (served v ∷ ps) = places_missing ps
places_missing (waiting m ∷ ps) = m ∷ places_missing ps

unfoldable pub command_missing : Command → List Missing
command_missing handed_on = []
command_missing (cached v) = []
command_missing (cached_array vs) = []
command_missing (single m) = m ∷ []
command_missing (multiple ps) = places_missing ps

unfoldable pub commands_missing : List Command → List Missing
commands_missing [] = []
commands_missing (c ∷ cs) = command_missing c ++ commands_missing cs
