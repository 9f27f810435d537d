-- `trap_send::write_command` meets its contract. Assumes nothing.
use mathlib.Core.Path.{ap, ◌∙◌}
use Prim.Native.Nat.{ℕ}
use Rattle.cursor.specs.At.{command_of}
use Rattle.book.specs.Book.{Row}
use Rattle.plan_write.specs.Wrote.{wrote_as, room-is}
use Rattle.sharded_lru.specs.Lent.{setup_now}
use Rattle.planning_outcome.specs.Sizes.{sent_for}
use Rattle.planning.specs.Ask.{ask}
use Rattle.trap_send.proofs.write_command.Goals as goal

pub all_wait-w-requires : goal.all_wait-w-requires
all_wait-w-requires c = let w = c.requires in (w.0, w.1)

pub write_sent-requires : goal.write_sent-requires
write_sent-requires c =
    let a = c.args in
    let w = c.requires in
    let q = w.2 in
    let k = c.all_wait-w.ensures a.when.epoch in (
      w.0.here,
      k.inside,
      room-is _ _ _ _
          (ap (λ (z : ℕ → Row). sent_for (setup_now a.g) z a.when.clock a.when.epoch (ask a.g a.when.clock) a.g.mode
          (command_of a.bytes.now a.head)) (w.4.none q.rows q.lent)
          ∙ k.sent) (w.3 q.rows q.lent),
    )

pub returns : goal.returns
returns c =
    let a = c.args in
    let w = c.requires in
    let k = c.all_wait-w.ensures a.when.epoch in
    λ rows o. wrote_as _ _ _ _ _ _
    (ap (λ (z : ℕ → Row). sent_for (setup_now a.g) z a.when.clock a.when.epoch (ask a.g a.when.clock) a.g.mode
    (command_of a.bytes.now a.head)) (w.4.none rows o) ∙ k.sent)
    c.write_sent.ensures
