-- What the smaller functions answer, and the laws that tie it to planning's definitions, one for each path of the code. Assumes nothing.
use Rattle.std.specs.Prelude.{◌≡◌, Option, Some, None, Bool, true, false, cond, List, [], ◌∷◌, ℕ, ◌+◌, ◌^◌, ◌<◌, eqb, leb, length}
use Rattle.buffer.specs.Same.{Bytes}
use Rattle.config.specs.declared.CacheMode.{CacheMode}
use Rattle.config.specs.declared.CacheMode.TheVariants.{All, OptIn}
use Rattle.commands.specs.MultiKey.{multi_key}
use Rattle.call_record.specs.Record.{Argument, simple, cursor, bit}
use Rattle.cursor.specs.At.{range_bytes, RangeIn}
use Rattle.cursor.specs.declared.Arg.{Arg}
use Rattle.cursor.specs.declared.Arg.TheVariants.{Simple, Cursor}
use Rattle.cursor.specs.declared.Args.{Args}
use Rattle.cursor.specs.declared.Range.{Range}
use Rattle.planning.specs.Ask as plan
use Rattle.planning_ask.specs.Asked.{simples_of, keys_in, path_in, SeveralIn}
use Rattle.planning_ask.specs.declared.Reached.{Reached}
use Rattle.planning_ask.specs.declared.Reached.TheVariants.{Skipped, Stopped, Named}
use Rattle.planning_ask.specs.declared.SimpleArgs.{SimpleArgs}
use Rattle.planning_ask.specs.declared.Several.{Several}
use Rattle.planning_ask.specs.declared.Asked.{Asked}
use Rattle.planning_ask.specs.declared.Asked.TheVariants.{Uncacheable, SeveralKeys}

-- ---- what the smaller functions answer

-- whether a command with these flags takes part
abbrev pub takes_part_by : CacheMode → ℕ → Bool
takes_part_by All f = true
takes_part_by OptIn f = bit 2 f

-- the TTL of a command with these flags and this client TTL, by the default
abbrev pub ttl_by : ℕ → ℕ → ℕ → ℕ
ttl_by f own usual = cond (bit 3 f) own usual

-- whether that expiry is worked out and is past 64 bits
abbrev pub late_by : Reached → ℕ → Bool
late_by Skipped x = false
late_by Stopped x = false
late_by (Named n) x = leb (2 ^ 64) x

-- a simple argument's range
abbrev pub simple_range : Arg → Option Range
simple_range (Simple g) = Some g
simple_range Cursor = None

-- one argument more
abbrev pub with_argument : SimpleArgs → Arg → SimpleArgs
with_argument f (Simple g) = record { count = f.count + 1; last = g }
with_argument f Cursor = f

-- the last one alone, of those found
abbrev pub last_in : Bytes → SimpleArgs → List Bytes
last_in s f = cond (eqb f.count 0) [] (range_bytes s f.last ∷ [])

-- the simple arguments before a cursor: how many, and the last
pub record Extracted (s : Bytes) (k : Args) (f : SimpleArgs) : Type 0 where
  pub count : f.count ≡ length (simples_of s k)
  pub last : plan.last_only (simples_of s k) ≡ last_in s f
  pub inside : RangeIn s f.last

-- several keys of the arguments l, whose first is the name
pub record SeveralOf (s : Bytes) (l : List Argument) (json : Bool) (v : Several) : Type 0 where
  pub is : v.json ≡ json
  pub inside : SeveralIn s v
  pub keys : keys_in s v ≡ cond json (plan.but_last (plan.after_name l)) (plan.after_name l)
  pub path : path_in s v ≡ cond json (plan.last_only (plan.after_name l)) []

-- several keys are asked for, if there are any
abbrev pub asked_several : Several → ℕ → Asked
asked_several v x = cond (eqb v.keys 0) Uncacheable (SeveralKeys v x)

-- the first argument is a name
unfoldable pub HasName : List Argument → Type 0
HasName [] = ⊥
HasName (simple b ∷ l) = 0 < length b
HasName (cursor ∷ l) = ⊥

-- what a command of this name asks for
abbrev pub ask_named : Bytes → List Argument → ℕ → plan.Ask
ask_named n l x = plan.ask_by (multi_key n) n l x
