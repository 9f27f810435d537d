-- `commands::is_cachable_cmd` meets its contract: each arm's row is the row of the names of its length, which is computed. Assumes nothing.
use mathlib.Core.Path.{refl, sym}
use mathlib.Core.List.{[], ◌∷◌}
use native.Mathlib.Omega.{arith}
use Rattle.commands.specs.Names.{read_only_cacheable}
use Rattle.commands.proofs.Arms.{open-names, arm, no_arm}
use Rattle.commands.proofs.is_cachable_cmd.Goals as goal

pub returns-in-3 : goal.returns-in-3
unfolding open-names
returns-in-3 c = arm read_only_cacheable _ _ 3 _ c.listed.ensures (omega arith) refl

pub returns-in-4 : goal.returns-in-4
unfolding open-names
returns-in-4 c = arm read_only_cacheable _ _ 4 _ c.listed-in-4.ensures (omega arith) refl

pub returns-in-5 : goal.returns-in-5
unfolding open-names
returns-in-5 c = arm read_only_cacheable _ _ 5 _ c.listed-in-5.ensures (omega arith) refl

pub returns-in-6 : goal.returns-in-6
unfolding open-names
returns-in-6 c = arm read_only_cacheable _ _ 6 _ c.listed-in-6.ensures (omega arith) refl

pub returns-in-7 : goal.returns-in-7
unfolding open-names
returns-in-7 c = arm read_only_cacheable _ _ 7 _ c.listed-in-7.ensures (omega arith) refl

pub returns-in-8 : goal.returns-in-8
unfolding open-names
returns-in-8 c = arm read_only_cacheable _ _ 8 _ c.listed-in-8.ensures (omega arith) refl

pub returns-in-9 : goal.returns-in-9
unfolding open-names
returns-in-9 c = arm read_only_cacheable _ _ 9 _ c.listed-in-9.ensures (omega arith) refl

pub returns-in-10 : goal.returns-in-10
unfolding open-names
returns-in-10 c = arm read_only_cacheable _ _ 10 _ c.listed-in-10.ensures (omega arith) refl

pub returns-in-11 : goal.returns-in-11
unfolding open-names
returns-in-11 c = arm read_only_cacheable _ _ 11 _ c.listed-in-11.ensures (omega arith) refl

pub returns-in-12 : goal.returns-in-12
unfolding open-names
returns-in-12 c = arm read_only_cacheable _ _ 12 _ c.listed-in-12.ensures (omega arith) refl

pub returns-in-13 : goal.returns-in-13
unfolding open-names
returns-in-13 c = arm read_only_cacheable _ _ 13 _ c.listed-in-13.ensures (omega arith) refl

pub returns-in-14 : goal.returns-in-14
unfolding open-names
returns-in-14 c = arm read_only_cacheable _ _ 14 _ c.listed-in-14.ensures (omega arith) refl

pub returns-in-16 : goal.returns-in-16
unfolding open-names
returns-in-16 c = arm read_only_cacheable _ _ 16 _ c.listed-in-16.ensures (omega arith) refl

pub returns-in_default : goal.returns-in_default
unfolding open-names
returns-in_default c = sym (no_arm (16 ∷ 14 ∷ 13 ∷ 12 ∷ 11 ∷ 10 ∷ 9 ∷ 8 ∷ 7 ∷ 6 ∷ 5 ∷ 4 ∷ 3 ∷ []) read_only_cacheable _ refl c.in_default.in_default-own.rest)
