-- The limits of docs/BEHAVIOUR.md, each stated once. Assumes nothing: these are definitions.
use Rattle.std.specs.Prelude.{ℕ}

-- the largest size (keys of the whole cache) in the settings; the smallest is 1
abbrev pub max_size : ℕ
max_size = 65536

-- the largest arena, 2^31 bytes
abbrev pub max_arena : ℕ
max_arena = 2147483648

-- the smallest number of arena bytes for each shard
abbrev pub min_shard_bytes : ℕ
min_shard_bytes = 64

-- commands of a call record, and arguments of a command
abbrev pub max_commands : ℕ
max_commands = 1024

abbrev pub max_arguments : ℕ
max_arguments = 1024

-- bytes of one argument of a call record
abbrev pub max_argument : ℕ
max_argument = 65535

-- bytes of a key given to a single call, or kept in arena or plan
abbrev pub max_key : ℕ
max_key = 65535

-- 16 MiB: a call record; a value of a single call; replies, a push, a stored value
abbrev pub max_bytes : ℕ
max_bytes = 16777216

-- bytes of a command key given to a single call, or kept in arena or plan
abbrev pub max_command_key : ℕ
max_command_key = 16777216

-- how deep a RESP3 value nests, the outermost counting 1
abbrev pub max_depth : ℕ
max_depth = 16

-- the largest number of a mode: 0 is All, 1 is opt-in
abbrev pub max_mode : ℕ
max_mode = 1

-- the number of shards of a cache of that many keys or more; a smaller one has one shard
abbrev pub max_shards : ℕ
max_shards = 32
