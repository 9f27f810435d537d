-- What stands at a place of a call record: its arguments, its commands and the whole, read off the bytes by their positions. On the bytes of
-- a valid record this is the record (`decoded` in Laws.antt). Definitions alone; nothing is assumed.
use Rattle.std.specs.Prelude.{◌≡◌, Bool, false, cond, List, [], ◌∷◌, ℕ, zero, suc, ◌+◌, ◌-◌, ◌≤◌, eqb, length, get_or}
use Rattle.buffer.specs.Same.{Bytes}
use Rattle.buffer.specs.Part.{part}
use Rattle.buffer.specs.Field.{read16, read32, read64}
use Rattle.call_record.specs.Record.{Argument, simple, cursor, Command, Record}
use Rattle.cursor.specs.declared.Arg.{Arg}
use Rattle.cursor.specs.declared.Arg.TheVariants.{Simple, Cursor}
use Rattle.cursor.specs.declared.Args.{Args}
use Rattle.cursor.specs.declared.Commands.{Commands}
use Rattle.cursor.specs.declared.Head.{Head}
use Rattle.cursor.specs.declared.Range.{Range}

-- ---- arguments

-- the bytes that an argument adds to `cmd.data`: a cursor adds none
abbrev pub own : Argument → Bytes
own (simple b) = b
own cursor = []

-- the bytes from a range's start up to its end
abbrev pub range_bytes : Bytes → Range → Bytes
range_bytes s g = part s g.start (g.end - g.start)

abbrev pub RangeIn : Bytes → Range → Type 0
RangeIn s g = (g.start ≤ g.end) × (g.end ≤ length s)

-- the argument that stands at a place
abbrev pub argument_of : Bytes → Arg → Argument
argument_of s (Simple g) = simple (range_bytes s g)
argument_of s Cursor = cursor

abbrev pub PlaceIn : Bytes → Arg → Type 0
PlaceIn s (Simple g) = RangeIn s g
PlaceIn s Cursor = Unit {0}

-- how many bytes the argument at `at` has of its own, and where it ends
abbrev pub size_at : Bytes → ℕ → ℕ
size_at s at = read32 s (at + 1)

-- where it ends
abbrev pub next_at : Bytes → ℕ → ℕ
next_at s at = at + 5 + size_at s at

-- an argument by its kind
abbrev pub argument_if : Bool → Bytes → Argument
argument_if b t = cond b (simple t) cursor

-- the argument at `at`
abbrev pub arg_at : Bytes → ℕ → Argument
arg_at s at = argument_if (eqb (get_or s at 0) 0) (part s (at + 5) (size_at s at))

-- the n arguments from `at` on, and where they end
unfoldable pub args_at : Bytes → ℕ → ℕ → List Argument
args_at s zero at = []
args_at s (suc n) at = arg_at s at ∷ args_at s n (next_at s at)

-- where they end
unfoldable pub args_end : Bytes → ℕ → ℕ → ℕ
args_end s zero at = at
args_end s (suc n) at = args_end s n (next_at s at)

-- the argument at `at` lies inside; a cursor has no bytes of its own
pub record ArgIn (s : Bytes) (at : ℕ) : Type 0 where
  pub room : at + 5 ≤ length s
  pub inside : next_at s at ≤ length s
  pub empty : eqb (get_or s at 0) 0 ≡ false → size_at s at ≡ 0

-- so do the n arguments from `at` on
unfoldable pub ArgsIn : Bytes → ℕ → ℕ → Type 0
ArgsIn s zero at = at ≤ length s
ArgsIn s (suc n) at = ArgIn s at × ArgsIn s n (next_at s at)

-- the arguments that a cursor over them has before it
abbrev pub args_of : Bytes → Args → List Argument
args_of s k = args_at s k.left k.at

abbrev pub ArgsHere : Bytes → Args → Type 0
ArgsHere s k = ArgsIn s k.left k.at

-- ---- commands

-- the fields of the command at `at`, with a cursor over its arguments
abbrev pub head_at : Bytes → ℕ → Head
head_at s at =
    record {
      flags = get_or s at 0;
      ttl = read64 s (at + 1);
      cursor = read64 s (at + 9);
      args = record { at = at + 19; left = read16 s (at + 17) };
    }

-- the command that has these fields
abbrev pub command_of : Bytes → Head → Command
command_of s h = record { flags = h.flags; ttl = h.ttl; cursor = h.cursor; args = args_of s h.args }

-- where the command at `at` ends
abbrev pub command_next : Bytes → ℕ → ℕ
command_next s at = args_end s (read16 s (at + 17)) (at + 19)

-- the n commands from `at` on
unfoldable pub commands_at : Bytes → ℕ → ℕ → List Command
commands_at s zero at = []
commands_at s (suc n) at = command_of s (head_at s at) ∷ commands_at s n (command_next s at)

-- they lie inside, with their arguments
unfoldable pub CommandsIn : Bytes → ℕ → ℕ → Type 0
CommandsIn s zero at = at ≤ length s
CommandsIn s (suc n) at = (at + 19 ≤ length s) × ArgsIn s (read16 s (at + 17)) (at + 19) × CommandsIn s n (command_next s at)

-- the commands that a cursor over them has before it
abbrev pub commands_of : Bytes → Commands → List Command
commands_of s k = commands_at s k.left k.at

abbrev pub CommandsHere : Bytes → Commands → Type 0
CommandsHere s k = CommandsIn s k.left k.at

-- ---- the record

-- a cursor over all of a record's commands
abbrev pub command_cursor : Bytes → Commands
command_cursor s = record { at = 8; left = read16 s 6 }

-- the record that the bytes are, if they are one
unfoldable pub record_at : Bytes → Record
record_at s = record { flags = get_or s 5 0; commands = commands_of s (command_cursor s) }
