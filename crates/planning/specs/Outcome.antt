-- The outcome of each command, from the answers to its lookups; and the lookups: rules P8 to P12 of docs/BEHAVIOUR.md, after `get_cached_pipeline`.
-- Assumes nothing: these are definitions.
-- Letters: c command, n name, k key, w a key with its command key, x client expiry, v value.
use Rattle.std.specs.Prelude.{ℕ, List, [], ◌∷◌, ◌++◌, length, take, drop}
use Rattle.buffer.specs.Same.{Bytes}
use Rattle.commands.specs.MultiKey.{multi_key, single_name}
use Rattle.resp3.specs.Kinds.{byte_of}
use Rattle.resp3.specs.Value.{counted}
use Rattle.resp3.specs.declared.Kind.TheVariants.{Array}
use Rattle.call_record.specs.Record.{Argument, simple, Command}
use Rattle.command_key.specs.Key.{command_key}
use Rattle.book.specs.Book.{Answer, hit, miss, stored, no_space, invalidated, number}
use Rattle.book.specs.Calls.{Wanted}
use Rattle.planning.specs.Ask.{Ask, nothing, uncacheable, one_key, several_keys}

-- ---- What can become of a command (rules P1, P11, P12): the Rust's own three enums, the innermost first

-- what is served: a value, or the values of a cached array
pub data Served : Type 0 where
  value : Bytes → Served
  values : List Bytes → Served

-- a place of a several-key command's answer: filled by a served value, or waiting for a key
pub data Place : Type 0 where
  filled : Bytes → Place
  waiting : Wanted → Place

pub data CacheableCommand : Type 0 where
  -- the missing key with its command key; client expiry
  single : Wanted → ℕ → CacheableCommand
  -- the command's name, its places, its path (at most one argument); client expiry
  multiple : Bytes → List Place → List Bytes → ℕ → CacheableCommand

pub data PrepCacheItem : Type 0 where
  cached : Served → PrepCacheItem
  not_cached : CacheableCommand → PrepCacheItem
  not_cacheable : PrepCacheItem

pub data CachingResult : Type 0 where
  item : PrepCacheItem → CachingResult
  ignored : CachingResult

-- ---- Command keys (rules P8, P9). Nothing marks where an argument ends, so different commands can share an entry (docs/DIFFERENCES.md)

-- one key, of the command c: by its own argument list, the name among it (rule P8)
unfoldable pub whole_key : Command → Bytes → Wanted
whole_key c k = record { key = k; command = command_key c.args }

-- byte strings as arguments
unfoldable pub as_simple : List Bytes → List Argument
as_simple [] = []
as_simple (b ∷ l) = simple b ∷ as_simple l

-- one of several keys, of the command named n with that path: by the argument list of the one-key command (rule P9)
unfoldable pub part_key : Bytes → List Bytes → Bytes → Wanted
part_key n path k = record { key = k; command = command_key (simple (single_name (multi_key n)) ∷ (simple k ∷ as_simple path)) }

-- each of several; a key that stands twice is looked up twice (rule P5)
unfoldable pub part_keys : Bytes → List Bytes → List Bytes → List Wanted
part_keys n path [] = []
part_keys n path (k ∷ ks) = part_key n path k ∷ part_keys n path ks

-- ---- The lookups, in order (rule P10)

-- of one command
unfoldable pub wants : Command → Ask → List Wanted
wants c nothing = []
wants c uncacheable = []
wants c (one_key k x) = whole_key c k ∷ []
wants c (several_keys n ks path x) = part_keys n path ks

-- of all commands, by what each asks for (`ask` of Ask.antt, for the settings and the clock of the call)
unfoldable pub wanted : (Command → Ask) → List Command → List Wanted
wanted asks [] = []
wanted asks (c ∷ cs) = wants c (asks c) ++ wanted asks cs

-- ---- The outcome, from the answers to the lookups (a lookup answers a hit or a miss)

-- what one answer makes of a key
unfoldable pub place_by : Answer → Wanted → Place
place_by (hit v) w = filled v
place_by miss w = waiting w
place_by stored w = waiting w
place_by no_space w = waiting w
place_by invalidated w = waiting w
place_by (number m) w = waiting w

-- the first answer is the key's (there is one answer for each key)
unfoldable pub place : List Answer → Wanted → Place
place [] w = waiting w
place (a ∷ said) w = place_by a w

-- each key with its answer
unfoldable pub places : List Answer → List Wanted → List Place
places said [] = []
places said (w ∷ ws) = place said w ∷ places (drop 1 said) ws

-- the keys that wait
unfoldable pub missing : List Place → List Wanted
missing [] = []
missing (filled v ∷ ps) = missing ps
missing (waiting w ∷ ps) = w ∷ missing ps

-- the values served
unfoldable pub served_values : List Place → List Bytes
served_values [] = []
served_values (filled v ∷ ps) = v ∷ served_values ps
served_values (waiting w ∷ ps) = served_values ps

-- one key (rule P11)
unfoldable pub single_item : Place → ℕ → PrepCacheItem
single_item (filled v) x = cached (value v)
single_item (waiting w) x = not_cached (single w x)

-- several, from the keys that wait: without any the command is served, as an array, which may be empty (rule P12)
unfoldable pub multiple_item : List Wanted → Bytes → List Place → List Bytes → ℕ → PrepCacheItem
multiple_item [] n ps path x = cached (values (served_values ps))
multiple_item (w ∷ ws) n ps path x = not_cached (multiple n ps path x)

-- byte strings run together
unfoldable pub joined : List Bytes → Bytes
joined [] = []
joined (b ∷ l) = b ++ joined l

-- what is served, in RESP3's bytes: a value as it was stored, several as an array of them
unfoldable pub served_bytes : Served → Bytes
served_bytes (value v) = v
served_bytes (values vs) = byte_of Array ∷ counted (length vs) (joined vs)

-- of one command
unfoldable pub outcome : Command → Ask → List Answer → CachingResult
outcome c nothing said = ignored
outcome c uncacheable said = item not_cacheable
outcome c (one_key k x) said = item (single_item (place said (whole_key c k)) x)
outcome c (several_keys n ks path x) said =
    let ps = places said (part_keys n path ks) in item (multiple_item (missing ps) n ps path x)

-- of all commands, each from the answers to its own lookups
unfoldable pub outcomes : (Command → Ask) → List Command → List Answer → List CachingResult
outcomes asks [] said = []
outcomes asks (c ∷ cs) said =
    let own = length (wants c (asks c)) in outcome c (asks c) (take own said) ∷ outcomes asks cs (drop own said)

-- one name that opens every definition of this page, for cases that compute
unfoldable pub outcome-defs : Unit {0}
unfolding
    joined command_key whole_key as_simple part_key part_keys wants wanted place_by place places missing served_values single_item multiple_item served_bytes
    outcome outcomes
outcome-defs = tt
