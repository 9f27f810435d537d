-- `planning_dry_pass::dry_pass` meets its contract. Assumes nothing.
use Prim.Native.Nat.{◌-◌}
use Rattle.planning_dry_pass.specs.Dry as laws
use Rattle.planning_dry_pass.proofs.dry_pass.Given as goal

abbrev pub invariant-loop : goal.invariant-loop
invariant-loop l = laws.Walked l.g l.arena l.bytes l.when.clock l.when.epoch l.fn.k.left l.initial.at l.initial.p l.initial.q (l.fn.k.left - l.counter) l.at l.p l.q
