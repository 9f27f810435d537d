-- A planning as the exported function is given it, and what is returned. Numbers and bytes alone cross the border. Assumes nothing: these are definitions.
use Rattle.std.specs.Prelude.{◌≡◌, ℕ}
use Rattle.buffer.specs.Same.{Bytes}
use Rattle.config.specs.declared.Cause.{Cause}
use Rattle.config.specs.declared.Cause.TheVariants.{BadRecord}
use Rattle.book.specs.Book.{Counts}
use Rattle.statistics.specs.declared.Statistics.{Statistics}
use Rattle.statistics.specs.Counts.{more}
use Rattle.call_entry.specs.Entered.{holding}
use Rattle.statistics.specs.OfBook.{counts_of}
use Rattle.cache_manager.specs.Pipeline.{Returned, refused_as, wrong_at, wrote, cause_of, Left, plan_call}
use Rattle.caching.specs.declared.plan_call.RedisCachePlan.{RedisCachePlan}
use Rattle.caching.specs.declared.plan_call.PlanAdded.{PlanAdded}

-- cause 2's offset
abbrev pub offset_of : Cause → ℕ
offset_of (BadRecord at) = at
offset_of cause = 0

-- a refusal: the cause's number, and cause 2's offset; nothing is written, and nothing is sent
abbrev pub refused_return : ℕ → ℕ → RedisCachePlan
refused_return cause at = record { cause = cause; at = at; plan = 0; send = 0; offset = 0; count = 0 }

-- the cause's number, or 0; the offset of cause 2 (rule R5); the bytes written to the plan buffer and to the send buffer; the response counts
abbrev pub plan_return : Returned → RedisCachePlan
plan_return (refused_as n) = refused_return (cause_of (refused_as n)) 0
plan_return (wrong_at o) = refused_return (cause_of (wrong_at o)) o
plan_return (wrote n m c) = record { cause = cause_of (wrote n m c); at = 0; plan = n; send = m; offset = c.offset; count = c.count }

-- the planning of the call record with the plan buffer d and the send buffer f, by a caller who holds the arena s and these counts; the next number,
-- which it is not given, may be any
abbrev pub plan_by : ℕ → ℕ → ℕ → ℕ → ℕ → Bytes → Bytes → Bytes → Bytes → Counts → ℕ → Left
plan_by size mode ttl clock epoch bytes d f s lent next = plan_call size mode ttl clock epoch bytes d f (holding s lent next)

-- a planning that was lent the record `was` returned r and left the arena s, the plan buffer d and the send buffer f, as x says; and the record increased
-- by what is added is what x says
pub record PlanLeft (x : Left) (s d f : Bytes) (was : Statistics) (r : PlanAdded) : Type 0 where
  pub answer : r.answer ≡ plan_return x.returned
  pub arena : s ≡ x.held.arena
  pub counts : counts_of (more was r.adds) ≡ x.held.counts
  pub plan : d ≡ x.plan
  pub send : f ≡ x.send
