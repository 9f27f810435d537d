-- The call record (rules R1 to R4 of docs/BEHAVIOUR.md): what it holds, its bytes, and when it is valid. Numbers of more than one byte are
-- little-endian (`le16`, `le32`, `le64`). Definitions alone; nothing is assumed.
use Rattle.std.specs.Prelude.{◌≡◌, Bool, true, false, List, [], ◌∷◌, ◌++◌, ℕ, ◌/◌, ◌%◌, ◌^◌, ◌≤◌, ◌<◌, eqb, length}
use Rattle.buffer.specs.Same.{Bytes}
use Rattle.buffer.specs.Field.{le16, le32, le64}
use Rattle.config.specs.Limits.{max_commands, max_arguments, max_argument}
use Rattle.format.specs.Lists.{enc_all, All, Byte}

-- ---- what a record holds

-- an argument: bytes of its own, or the mark at which the command's cursor goes
pub data Argument : Type 0 where
  simple : Bytes → Argument
  cursor : Argument

-- a command: its flags, client TTL in milliseconds, cursor and arguments
pub record Command : Type 0 where
  pub flags : ℕ
  pub ttl : ℕ
  pub cursor : ℕ
  pub args : List Argument

-- a record: its flags and commands
pub record Record : Type 0 where
  pub flags : ℕ
  pub commands : List Command

-- ---- flags

-- bit k of a flags byte
abbrev pub bit : ℕ → ℕ → Bool
bit k f = eqb (f / 2 ^ k % 2) 1

-- bit 0 of a record
abbrev pub transaction : Record → Bool
transaction r = bit 0 r.flags

-- bit 0 of a command
abbrev pub ignored : Command → Bool
ignored c = bit 0 c.flags

-- bit 1: cache settings present
abbrev pub settings : Command → Bool
settings c = bit 1 c.flags

-- bit 2: `enable_cache`
abbrev pub enable_cache : Command → Bool
enable_cache c = bit 2 c.flags

-- bit 3: client TTL present
abbrev pub has_ttl : Command → Bool
has_ttl c = bit 3 c.flags

-- ---- its bytes

-- kind (0 simple, 1 cursor), length (0 for a cursor), bytes
unfoldable pub enc_argument : Argument → Bytes
enc_argument (simple b) = 0 ∷ (le32 (length b) ++ b)
enc_argument cursor = 1 ∷ le32 0

-- flags, TTL, cursor, argument count, arguments
unfoldable pub enc_command : Command → Bytes
enc_command c = c.flags ∷ (le64 c.ttl ++ (le64 c.cursor ++ (le16 (length c.args) ++ enc_all enc_argument c.args)))

-- the mark `TRP`
abbrev pub mark : Bytes
mark = 84 ∷ 82 ∷ 80 ∷ []

-- mark, version 1, flags, command count, commands
unfoldable pub enc_record : Record → Bytes
enc_record r = mark ++ (le16 1 ++ (r.flags ∷ (le16 (length r.commands) ++ enc_all enc_command r.commands)))

-- ---- when it is valid

-- at most so many bytes; a cursor is always fine
unfoldable pub ValidArgument : Argument → Type 0
ValidArgument (simple b) = (length b ≤ max_argument) × All Byte b
ValidArgument cursor = Unit {0}

-- only bits 0 to 3; bits 2 and 3 need bit 1; the TTL is 0 if bit 3 is clear; TTL and cursor have 64 bits; not too many arguments
pub record ValidCommand (c : Command) : Type 0 where
  pub flags : c.flags < 16
  pub enable : enable_cache c ≡ true → settings c ≡ true
  pub client : has_ttl c ≡ true → settings c ≡ true
  pub no-ttl : has_ttl c ≡ false → c.ttl ≡ 0
  pub ttl : c.ttl < 2 ^ 64
  pub cursor : c.cursor < 2 ^ 64
  pub count : length c.args ≤ max_arguments
  pub args : All ValidArgument c.args

-- only bit 0; not too many commands, each of them valid
pub record ValidRecord (r : Record) : Type 0 where
  pub flags : r.flags < 2
  pub count : length r.commands ≤ max_commands
  pub commands : All ValidCommand r.commands
