-- The causes' numbers, by name (rules C1 to C11 of docs/BEHAVIOUR.md, which say when each is given). Assumes nothing: these are definitions.
use Rattle.std.specs.Prelude.{ℕ, cond, eqb, Option, Some, None}
use Rattle.config.specs.declared.Cause.{Cause}
use Rattle.config.specs.declared.Cause.TheVariants.{BadConfig, BadRecord, TooLong, LateExpiry, ShortBuffer, BadReply, BadShape, ShortAnswer, BadArena, BadPlan, NoSpace}

-- settings or arena length out of bounds
abbrev pub bad_config : ℕ
bad_config = 1

-- no call record
abbrev pub bad_record : ℕ
bad_record = 2

-- a record, key, command key or value over its limit
abbrev pub too_long : ℕ
too_long = 3

-- a client expiry that needs more than 64 bits
abbrev pub late_expiry : ℕ
late_expiry = 4

-- planning's plan or send buffer too small
abbrev pub short_buffer : ℕ
short_buffer = 5

-- replies, push or value to store not one RESP3 value
abbrev pub bad_reply : ℕ
bad_reply = 6

-- no list of replies, or no fitting reply for a command
abbrev pub bad_shape : ℕ
bad_shape = 7

-- resolving's answer buffer too small
abbrev pub short_answer : ℕ
short_answer = 8

-- no arena
abbrev pub bad_arena : ℕ
bad_arena = 9

-- no plan
abbrev pub bad_plan : ℕ
bad_plan = 10

-- no space for a store
abbrev pub no_space : ℕ
no_space = 11

-- the number of a cause
abbrev pub number : Cause → ℕ
number BadConfig = bad_config
number (BadRecord offset) = bad_record
number TooLong = too_long
number LateExpiry = late_expiry
number ShortBuffer = short_buffer
number BadReply = bad_reply
number BadShape = bad_shape
number ShortAnswer = short_answer
number BadArena = bad_arena
number BadPlan = bad_plan
number NoSpace = no_space

-- the cause that a number stands for, if one does; which offset of a call record is wrong the number does not tell
abbrev pub cause_numbered : ℕ → Option Cause
cause_numbered n =
    cond (eqb n bad_config) (Some BadConfig) (cond (eqb n bad_record) (Some (BadRecord 0)) (cond (eqb n too_long) (Some TooLong)
    (cond (eqb n late_expiry) (Some LateExpiry) (cond (eqb n short_buffer) (Some ShortBuffer) (cond (eqb n bad_reply) (Some BadReply)
    (cond (eqb n bad_shape) (Some BadShape) (cond (eqb n short_answer) (Some ShortAnswer) (cond (eqb n bad_arena) (Some BadArena)
    (cond (eqb n bad_plan) (Some BadPlan) (cond (eqb n no_space) (Some NoSpace) None))))))))))
