-- The book's call that a resolving is, by its arguments alone, causes 1 and 9 aside. Assumes nothing: these are definitions.
use Rattle.std.specs.Prelude.{cond, ℕ}
use Rattle.std.proofs.Math.Option.{Option, none, some}
use Rattle.buffer.specs.Same.{Bytes}
use Rattle.config.specs.declared.CacheMode.{CacheMode}
use Rattle.resp3.specs.Ends.{is_value}
use Rattle.resp3.specs.Decode as resp
use Rattle.book.specs.Calls.{Call, refused}
use Rattle.planning.specs.Plan as nodes
use Rattle.resolving_walk.specs.Commands.{plan_read}
use Rattle.resolving.specs.Resolve.{resolve}
use Rattle.caching_cmd.specs.Call.{told_to}

unfoldable pub told_by : CacheMode → Option nodes.Plan → Bytes → ℕ → ℕ → ℕ → Call
told_by mode none replies clock epoch room = refused
told_by mode (some p) replies clock epoch room =
    cond (is_value replies) (told_to p.transaction epoch (resolve (plan_read p) mode clock (resp.decode replies)) room) refused
