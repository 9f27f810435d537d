-- What the exported `redis_cache_value_end` returns. Numbers alone cross the border. Assumes nothing: these are definitions; what a verdict means is said by
-- resp3_prefix's Meaning.antt and Law.antt.
use Rattle.std.specs.Prelude.{ℕ, Result, Ok, Err}
use Rattle.resp3_prefix.specs.declared.NotWhole.{NotWhole}
use Rattle.resp3_prefix.specs.declared.NotWhole.TheVariants.{Lacks, Never}
use Rattle.caching.specs.declared.value_end_call.RedisCacheValueEnd.{RedisCacheValueEnd}

-- 0 and the value's length; 1 and the least number of bytes that are lacking; 2
abbrev pub value_end_return : Result ℕ NotWhole → RedisCacheValueEnd
value_end_return (Ok e) = record { verdict = 0; bytes = e }
value_end_return (Err (Lacks k)) = record { verdict = 1; bytes = k }
value_end_return (Err Never) = record { verdict = 2; bytes = 0 }
