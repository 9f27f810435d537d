-- What the answers of this crate's code stand for, in the terms of planning's definitions (`planning/specs/Ask.antt`): ranges are read as the
-- record's bytes, several keys as the first so many simple arguments behind the name. Assumes nothing: these are definitions.
-- Letters: s the record's bytes, k a cursor over arguments, v several keys, g settings, t clock.
use Rattle.std.specs.Prelude.{◌≡◌, Bool, true, false, cond, List, [], ◌∷◌, ℕ, ◌≤◌, ◌<◌, length, take}
use Rattle.buffer.specs.Same.{Bytes}
use Rattle.buffer.specs.Ascii.{ascii}
use Rattle.config.specs.declared.Settings.{Settings}
use Rattle.call_record.specs.Record.{Command}
use Rattle.cursor.specs.At.{range_bytes, RangeIn, args_of, ArgsHere}
use Rattle.cursor.specs.declared.Args.{Args}
use Rattle.command_key.specs.Key.{command_key}
use Rattle.book.specs.Calls.{Wanted}
use Rattle.planning.specs.Ask as plan
use Rattle.planning.specs.Outcome.{as_simple, part_keys}
use Rattle.planning_ask.specs.declared.Several.{Several}
use Rattle.planning_ask.specs.declared.KeyAt.{KeyAt}
use Rattle.planning_ask.specs.declared.Reached.{Reached}
use Rattle.planning_ask.specs.declared.Reached.TheVariants.{Skipped, Stopped, Named}
use Rattle.planning_ask.specs.declared.Asked.{Asked}
use Rattle.planning_ask.specs.declared.Asked.TheVariants.{Nothing, Uncacheable, OneKey, SeveralKeys}

-- ---- how far a command gets

-- what `reach` answers stands for
abbrev pub reached_of : Bytes → Reached → plan.Reach
reached_of s Skipped = plan.skipped
reached_of s Stopped = plan.stopped
reached_of s (Named n) = plan.named (range_bytes s n)

-- its name lies inside
abbrev pub ReachedIn : Bytes → Reached → Type 0
ReachedIn s Skipped = Unit {0}
ReachedIn s Stopped = Unit {0}
ReachedIn s (Named n) = RangeIn s n

-- whether cause 4 refuses this command; and that it does not
abbrev pub late : Settings → ℕ → Command → Bool
late g t c = plan.past_end (plan.reach g.mode c) (plan.client_expiry g t c)

abbrev pub OnTime : Settings → ℕ → Command → Type 0
OnTime g t c = late g t c ≡ false

-- ---- several keys

-- the simple arguments before a cursor
abbrev pub simples_of : Bytes → Args → List Bytes
simples_of s k = plan.simples (args_of s k)

-- the name of the command
unfoldable pub several_name : Bool → Bytes
several_name true = ascii "JSON.MGET"
several_name false = ascii "MGET"

-- its keys: the first so many simple arguments behind the name
abbrev pub keys_in : Bytes → Several → List Bytes
keys_in s v = take v.keys (simples_of s v.args)

-- its path: for JSON the last simple argument, if there is one
abbrev pub path_in : Bytes → Several → List Bytes
path_in s v = cond v.json (plan.last_only (simples_of s v.args)) []

-- the keys with their command keys
abbrev pub wanted_in : Bytes → Several → List Wanted
wanted_in s v = part_keys (several_name v.json) (path_in s v) (keys_in s v)

-- the arguments lie inside, the keys are among them, and the range is the path's: empty where there is none
pub record SeveralIn (s : Bytes) (v : Several) : Type 0 where
  pub here : ArgsHere s v.args
  pub inside : RangeIn s v.path
  pub enough : v.keys ≤ length (simples_of s v.args)
  pub joins : command_key (as_simple (path_in s v)) ≡ range_bytes s v.path
  -- where there is a key, JSON has a path
  pub alone : v.json ≡ true → 0 < v.keys → path_in s v ≡ range_bytes s v.path ∷ []

-- the next key, and the cursor behind it
pub record KeyStep (s : Bytes) (k : Args) (r : KeyAt) : Type 0 where
  pub is : simples_of s k ≡ range_bytes s r.key ∷ simples_of s r.rest
  pub inside : RangeIn s r.key
  pub here : ArgsHere s r.rest

-- ---- what a command asks for

-- what `ask` answers stands for
abbrev pub asked_of : Bytes → Asked → plan.Ask
asked_of s Nothing = plan.nothing
asked_of s Uncacheable = plan.uncacheable
asked_of s (OneKey k x) = plan.one_key (range_bytes s k) x
asked_of s (SeveralKeys v x) = plan.several_keys (several_name v.json) (keys_in s v) (path_in s v) x

-- what it names lies inside
abbrev pub AskedIn : Bytes → Asked → Type 0
AskedIn s Nothing = Unit {0}
AskedIn s Uncacheable = Unit {0}
AskedIn s (OneKey k x) = RangeIn s k
AskedIn s (SeveralKeys v x) = SeveralIn s v
