-- What the exported `redis_cache_served` returns. Numbers alone cross the border. Assumes nothing: these are definitions.
use Rattle.std.specs.Prelude.{ℕ, Result, Ok, Err, Option as Maybe, Some, None}
use Rattle.config.specs.Causes.{number}
use Rattle.config.specs.declared.Cause.{Cause}
use Rattle.call_entry.specs.Entered.{no_cause}
use Rattle.caching.specs.declared.served_call.RedisCacheServed.{RedisCacheServed}

-- the cause's number, or 0; the bytes of the result; whether replies are needed. What is not told is 0
abbrev pub served_return : Result (Maybe ℕ) Cause → RedisCacheServed
served_return (Ok (Some n)) = record { cause = no_cause; answer = n; replies = 0 }
served_return (Ok None) = record { cause = no_cause; answer = 0; replies = 1 }
served_return (Err cause) = record { cause = number cause; answer = 0; replies = 0 }
