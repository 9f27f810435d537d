-- Causes 7 and 8 and the result: what the passes found and did is what becomes of the plan. Assumes nothing.
-- (Where a definition changes, a worked case is to say so first: this file cites one.)
use Rattle.std.proofs.Math.Path.{◌≡◌}
use Rattle.std.specs.Prelude.{Bool, ℕ, length}
use Rattle.std.proofs.Math.Dec.{leb}
use Rattle.resp3.specs.Value.{count}
use Rattle.resolving.specs.Resolve.{Resolved, cause7, answered}
use Rattle.resolving.specs.Result.{result_bytes}
use Rattle.resolving_passes.specs.declared.Dry.{Dry}
use Rattle.resolving_passes.specs.declared.Dry.TheVariants.{Wrong}
use Rattle.resolving_passes.specs.Passes.{dry_if}

-- what the dry pass finds of what becomes of a plan
unfoldable pub dry_for : Bool → Resolved → ℕ → Dry
dry_for transaction (cause7 ss) n = Wrong
dry_for transaction (answered vs ss) n = dry_if (leb (length (result_bytes transaction vs)) n)

-- as many answers as the plan has commands
abbrev pub Many : Resolved → ℕ → Type 0
Many (cause7 ss) k = Unit {0}
Many (answered vs ss) k = count vs ≡ k
