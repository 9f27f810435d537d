-- `trap_send::write_commands` meets its contract. Assumes nothing.
use Prim.Native.Nat.{◌-◌}
use Rattle.trap_send.specs.Walk as laws
use Rattle.trap_send.proofs.write_commands.Given as goal

abbrev pub invariant-loop : goal.invariant-loop
invariant-loop l = laws.Writing l.g l.arena l.bytes l.when.clock l.when.epoch l.fn.k.left l.initial.at l.initial.out l.initial.n (l.fn.k.left - l.counter) l.at l.out l.n
