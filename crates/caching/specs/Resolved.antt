-- A resolving as the exported function is given it, and what is returned. Numbers and bytes alone cross the border. Assumes nothing: these are definitions.
use Rattle.std.specs.Prelude.{ℕ, Result}
use Rattle.buffer.specs.Same.{Bytes}
use Rattle.book.specs.Book.{Counts}
use Rattle.call_entry.specs.Entered.{holding}
use Rattle.config.specs.declared.Cause.{Cause}
use Rattle.caching_cmd.specs.declared.Answered.{Answered}
use Rattle.caching_cmd.specs.Call.{ResolveReturn, cause_of, written_of, stores_of, resolve_call}
use Rattle.caching.specs.declared.resolve_call.RedisCacheResolve.{RedisCacheResolve}

-- the cause's number, or 0; the bytes of the result and the number of stores refused as 11, both 0 where it is refused
abbrev pub resolve_return : ResolveReturn → RedisCacheResolve
resolve_return t = record { cause = t.cause; answer = t.written; refused = t.stores }

-- so of the code's answer
abbrev pub answer_return : Result Answered Cause → RedisCacheResolve
answer_return r = record { cause = cause_of r; answer = written_of r; refused = stores_of r }

-- the resolving of these arguments with the answer buffer d, by a caller who holds the arena s; counts and next number, which it is not given, may be any
abbrev pub resolve_by : ℕ → ℕ → ℕ → ℕ → ℕ → Bytes → Bytes → Bytes → Bytes → Counts → ℕ → ResolveReturn
resolve_by size mode ttl clock epoch plan replies d s lent next = resolve_call size mode ttl plan replies clock epoch d (holding s lent next)
