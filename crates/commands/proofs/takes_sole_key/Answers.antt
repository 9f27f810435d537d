-- `commands::takes_sole_key` meets its contract: each arm's row is the row of the names of its length, which is computed. Assumes nothing.
use mathlib.Core.Path.{refl, sym}
use mathlib.Core.List.{[], ◌∷◌}
use native.Mathlib.Omega.{arith}
use Rattle.commands.specs.Names.{sole_key_names, all_ascii}
use Rattle.commands.proofs.Arms.{open-names, arm, no_arm}
use Rattle.commands.proofs.takes_sole_key.Goals as goal

pub returns-in-5 : goal.returns-in-5
unfolding open-names
returns-in-5 c = arm (all_ascii sole_key_names) _ _ 5 _ c.listed.ensures (omega arith) refl

pub returns-in-6 : goal.returns-in-6
unfolding open-names
returns-in-6 c = arm (all_ascii sole_key_names) _ _ 6 _ c.listed-in-6.ensures (omega arith) refl

pub returns-in_default : goal.returns-in_default
unfolding open-names
returns-in_default c = sym (no_arm (6 ∷ 5 ∷ []) (all_ascii sole_key_names) _ refl c.in_default.in_default-own.rest)
