-- The walk over a plan's nodes is resolving. Assumes nothing.
use Rattle.std.specs.Prelude.{Bool, true, false, ℕ}
use mathlib.Core.List.{[], ◌++◌}
use Rattle.buffer.specs.Same.{Bytes}
use Rattle.resp3.specs.Value.{encs}
use Rattle.cmd.specs.Pack.{head}
use Rattle.resolving.specs.Resolve.{Resolved, cause7, answered}
use Rattle.resolving_walk.specs.Walk.{Walked}
use Rattle.resolving_walk.specs.Walk.{stopped, through}

-- what becomes of a plan, as bytes of its answers and stores
abbrev pub walked_of : Resolved → Walked
walked_of (cause7 ss) = stopped ss
walked_of (answered vs ss) = through (encs vs []) ss

-- the bytes before the answers: `*n`, in a transaction behind `*1`
unfoldable pub result_head : Bool → ℕ → Bytes
result_head false n = head 42 n
result_head true n = head 42 1 ++ head 42 n
