-- `arena_check::home_of` meets its contract. Assumes nothing.
use mathlib.Core.Path.{sym, ap}
use Prim.Native.Nat.{ℕ, ◌%◌}
use Rattle.arena_check.proofs.home_of.Goals as goal

pub returns-then-shards-eq32 : goal.returns-then-shards-eq32
returns-then-shards-eq32 c = let a = c.args in ap (λ (n : ℕ). a.hash % n) (sym c.if-shards-eq32.true)
