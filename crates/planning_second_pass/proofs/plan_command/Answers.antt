-- `planning_second_pass::plan_command` meets its contract. Assumes nothing.
use mathlib.Core.Path.{sym, ap, ◌∙◌}
use Prim.Native.Nat.{ℕ, ◌+◌}
use native.Mathlib.Omega.{arith}
use Rattle.plan_write.specs.Wrote.{wrote_as, room-is}
use Rattle.planning_second_pass.specs.Prepares as laws
use Rattle.planning_second_pass.proofs.plan_command.Goals as goal

pub get_cached_cmd-p-requires : goal.get_cached_cmd-p-requires
get_cached_cmd-p-requires c = let w = c.requires in (w.0.here, w.0.times, w.1, w.2, w.3)

pub write_sent-from-requires : goal.write_sent-from-requires
write_sent-from-requires c =
    let a = c.args in
    let w = c.requires in
    let q = w.2.arena in
    let y = c.get_cached_cmd-p.ensures in
    let k = laws.prepared-sent a.g.mode _ _ _ _ _ _ _ _ _ a.head _ _ w.1 (y.1 q.rows q.lent) in
    (w.0.here, k.1, room-is _ _ _ _ k.0 (w.4 q.rows q.lent))

pub sent_count-n-requires : goal.sent_count-n-requires
sent_count-n-requires c =
    let a = c.args in
    let w = c.requires in
    let q = w.2.arena in
    let y = c.get_cached_cmd-p.ensures in
    (laws.prepared-count a.g.mode _ _ _ _ _ _ _ _ _ a.head _ _ w.1 (y.1 q.rows q.lent)).1

pub overflow_add-result : goal.overflow_add-result
overflow_add-result c =
    let w = c.requires.5 in
    let n = c.sent_count-n.ensures.1 in
    omega arith

pub returns : goal.returns
returns c =
    let a = c.args in
    let w = c.requires in
    let q = w.2.arena in
    let y = c.get_cached_cmd-p.ensures in
    let n = c.sent_count-n.ensures in
    let b = n.1 in (
      record {
        plan = λ rows o. (y.1 rows o).wrote;
        send =
            λ rows o. wrote_as _ _ _ _ _ _ (laws.prepared-sent a.g.mode _ _ _ _ _ _ _ _ _ a.head _ _ w.1 (y.1 rows o)).0
            c.write_sent-from.ensures;
        count =
            λ rows o. ap (λ (z : ℕ). a.x.sent + z) (n.0 ∙ sym (laws.prepared-count a.g.mode _ _ _ _ _ _ _ _ _ a.head _ _ w.1 (y.1 rows o)).0);
        looks = y.0;
      },
      omega arith,
    )
