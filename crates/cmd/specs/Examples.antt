-- Worked examples of the record, `arg_idx`, command keys and packing, each by computing; those of the record's check are in call_record's Cases.antt.
-- Assumes nothing.
use Rattle.std.specs.Prelude.{◌≡◌, refl, List, [], ◌∷◌, ◌++◌, replicate}
use Rattle.buffer.specs.Same.{Bytes}
use Rattle.buffer.specs.Part.{part}
use Rattle.buffer.specs.Field.{le, read_le}
use Rattle.call_record.specs.Record.{Argument, simple, cursor, Record, enc_argument, enc_command, enc_record}
use Rattle.cursor.specs.At.{args_at, args_end, commands_at, record_at}
use Rattle.cursor.specs.Index.{arg_idx, text, none}
use Rattle.command_key.specs.Key.{command_key}
use Rattle.decimal.specs.Digits.{digits}
use Rattle.buffer.specs.Ascii.{ascii}
use Rattle.cmd.specs.Pack.{texts, blob_bytes, blob, packed}
use Rattle.cmd.specs.PackLaws.{packed-pieces}

-- the arguments of `GET a`
abbrev args : List Argument
args = simple (ascii "GET") ∷ simple (ascii "a") ∷ []

-- a record of `GET a`, with no flags
abbrev get_a : Record
get_a = record { flags = 0; commands = record { flags = 0; ttl = 0; cursor = 0; args = args } ∷ [] }

-- its bytes: mark, version, flags and count of commands, then the command
abbrev bytes : Bytes
bytes = (ascii "TRP" ++ (1 ∷ 0 ∷ 0 ∷ 1 ∷ 0 ∷ [])) ++ (0 ∷ (replicate 16 0 ++ (2 ∷ 0 ∷ 0 ∷ 3 ∷ 0 ∷ 0 ∷ 0 ∷ (ascii "GET" ++ (0 ∷ 1 ∷ 0 ∷ 0 ∷ 0 ∷ ascii "a")))))

-- the record as it is written
pub get-bytes : enc_record get_a ≡ bytes
unfolding enc_record enc_command enc_argument le
get-bytes = refl

-- and as it is read
pub get-read : record_at bytes ≡ get_a
unfolding record_at commands_at args_at args_end read_le part
get-read = refl

-- ---- arguments and keys

-- no name, an empty name, a cursor as name; a key, also an empty one; a cursor there
pub idx : arg_idx [] 0 ≡ none
idx = refl

pub idx-empty : arg_idx (simple [] ∷ []) 0 ≡ none
idx-empty = refl

pub idx-cursor : arg_idx (cursor ∷ []) 0 ≡ none
idx-cursor = refl

pub idx-key : arg_idx args 1 ≡ text (ascii "a")
idx-key = refl

pub idx-empty-key : arg_idx (simple (ascii "GET") ∷ simple [] ∷ []) 1 ≡ text []
idx-empty-key = refl

pub idx-cursor-key : arg_idx (simple (ascii "GET") ∷ cursor ∷ []) 1 ≡ none
idx-cursor-key = refl

-- equal joined bytes, across names
pub shared : command_key (simple (ascii "GET") ∷ simple (ascii "RANGE") ∷ simple (ascii "RANGE") ∷ [])
    ≡ command_key (simple (ascii "GETRANGE") ∷ simple (ascii "RANGE") ∷ [])
unfolding command_key
shared = refl

-- ---- packing

-- `GET a`
pub get-packed : packed (texts 0 args) ≡ ascii "*2\r\n$3\r\nGET\r\n$1\r\na\r\n"
unfolding texts blob_bytes blob digits
get-packed = packed-pieces (texts 0 args)

-- a cursor is sent as its digits
pub cursor-packed : packed (texts 9999 (simple (ascii "SCAN") ∷ cursor ∷ [])) ≡ ascii "*2\r\n$4\r\nSCAN\r\n$4\r\n9999\r\n"
unfolding texts blob_bytes blob digits
cursor-packed = packed-pieces (texts 9999 (simple (ascii "SCAN") ∷ cursor ∷ []))

-- no argument
pub none-packed : packed [] ≡ ascii "*0\r\n"
unfolding blob_bytes digits
none-packed = packed-pieces []
