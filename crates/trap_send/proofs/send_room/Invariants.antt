-- `trap_send::send_room` meets its contract. Assumes nothing.
use Prim.Native.Nat.{◌-◌}
use Rattle.trap_send.specs.Walk as laws
use Rattle.trap_send.proofs.send_room.Given as goal

abbrev pub invariant-loop : goal.invariant-loop
invariant-loop l = laws.Counted l.g l.arena l.bytes l.when.clock l.when.epoch l.fn.k.left l.initial.at l.initial.q (l.fn.k.left - l.counter) l.at l.q
