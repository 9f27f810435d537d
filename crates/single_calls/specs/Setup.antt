-- What setup answers and leaves, from the outcome of cause 1's test. Assumes nothing: these are definitions.
use Rattle.buffer.specs.Same.{Bytes}
use Rattle.std.specs.Prelude.{length, replicate, Result, Ok, Err}
use Rattle.config.specs.declared.Cause.{Cause}
use Rattle.config.specs.declared.Settings.{Settings}
use Rattle.single_calls.specs.declared.NewCache.{NewCache}

-- rule B4: setup is the epoch 0, and 1 comes next; cause 1 is its only refusal
abbrev pub set_up : Result Settings Cause → Result NewCache Cause
set_up (Ok g) = Ok (record { epoch = 0; next = 1 })
set_up (Err cause) = Err cause

-- the arena after it: every byte zero, left-over bytes too, whatever it held; on cause 1 as it was
abbrev pub fresh_arena : Result Settings Cause → Bytes → Bytes
fresh_arena (Ok g) s = replicate (length s) 0
fresh_arena (Err cause) s = s
