-- The bytes of command keys (rules P8, P9 of docs/BEHAVIOUR.md), gathered from where they stand: nobody builds them up before they are stored.
-- Nothing is assumed.
use Rattle.std.specs.Prelude.{Bool, true, false, List, [], ◌∷◌, ◌++◌, ◌≤◌, length}
use Rattle.buffer.specs.Same.{Bytes}
use Rattle.config.specs.Limits.{max_bytes}
use Rattle.call_record.specs.Record.{Argument, simple}
use Rattle.cursor.specs.At.{range_bytes, RangeIn, args_of, ArgsHere, own}
use Rattle.command_key.specs.declared.CommandKey.{CommandKey}
use Rattle.command_key.specs.declared.CommandKey.TheVariants.{Part, Joined, Named}

-- the command key of an argument list, `cmd.data`: the simple arguments, joined. Planning's command keys and `key_bytes` are all made by it
unfoldable pub command_key : List Argument → Bytes
command_key [] = []
command_key (a ∷ l) = own a ++ command_key l

-- `JSON.GET`, or `GET`
unfoldable pub name_bytes : Bool → Bytes
name_bytes true = 74 ∷ 83 ∷ 79 ∷ 78 ∷ 46 ∷ 71 ∷ 69 ∷ 84 ∷ []
name_bytes false = 71 ∷ 69 ∷ 84 ∷ []

-- the bytes that a command key stands for, gathered from s: a range, which holds one as it is; of the arguments before a cursor; of a name, a key and a path
unfoldable pub key_bytes : Bytes → CommandKey → Bytes
key_bytes s (Part g) = range_bytes s g
key_bytes s (Joined k) = command_key (args_of s k)
key_bytes s (Named json key path) = command_key (simple (name_bytes json) ∷ (simple (range_bytes s key) ∷ (simple (range_bytes s path) ∷ [])))

-- what it is gathered from lies inside; a name's key and path stand in a call record, which is at most 16 MiB
unfoldable pub KeyIn : Bytes → CommandKey → Type 0
KeyIn s (Part g) = RangeIn s g
KeyIn s (Joined k) = ArgsHere s k
KeyIn s (Named json key path) = RangeIn s key × RangeIn s path × (length s ≤ max_bytes)
