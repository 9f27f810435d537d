-- `arena_check::mixed` meets its contract. Assumes nothing.
use mathlib.Core.Path.{refl}
use native.Mathlib.Omega.{arith}
use Rattle.arena_check.specs.Home.{mixed}
use Rattle.arena_check.proofs.mixed.Goals as goal

pub returns : goal.returns
unfolding mixed
returns c = (refl, omega arith)
