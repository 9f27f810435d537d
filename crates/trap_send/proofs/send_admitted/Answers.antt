-- `trap_send::send_admitted` meets its contract. Assumes nothing.
use mathlib.Core.Path.{sym, ◌∙◌}
use native.Mathlib.Omega.{arith}
use Rattle.trap_send.specs.Laws as laws
use Rattle.trap_send.proofs.send_admitted.Goals as goal

pub send_record-requires : goal.send_record-requires
send_record-requires c =
    let w = c.requires in
    let l = w.1 in
    (w.0, omega arith, sym c.check.ensures ∙ c.in-Ok.is, w.2)

pub returns-in-Err : goal.returns-in-Err
returns-in-Err c =
    let a = c.args in (
      λ rows n next o. laws.record-wrong a.bytes.now a.out.now a.arena.now a.g rows n next
          c.requires.1 _ (sym c.check.ensures ∙ c.in-Err.is),
      tt,
    )

pub returns-in-Ok : goal.returns-in-Ok
returns-in-Ok c =
    let a = c.args in
    let e = c.send_record.ensures in (
      λ rows n next o. laws.record-fine a.bytes.now a.out.now a.arena.now a.g rows n next
          c.requires.1
          (sym c.check.ensures ∙ c.in-Ok.is) _
          (e.0 rows n next o),
      e.1,
    )
