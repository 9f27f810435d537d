-- `pack_command` meets its contract: one writer after the other, case by case. Assumes nothing.
use mathlib.Core.Path.{refl, ap, subst}
use Rattle.plan_write.specs.Wrote.{wrote_as, wrote-both, room-is, room-first, room-second}
use Rattle.planning_outcome.specs.declared.CacheableCommand.{CacheableCommand}
use Rattle.planning_send.specs.Sends as sends
use Rattle.planning_send.proofs.pack_command.Goals as goal

pub write_opt_in-next-requires : goal.write_opt_in-next-requires
write_opt_in-next-requires c =
    let a = c.args in
    let p = c.requires in
    let C = sends.caching_bytes a.mode in
    room-first _ C (sends.missing_with a.bytes.now a.head a.src.now a.from a.cc) _ _ refl p.2

pub write_single-requires : goal.write_single-requires
write_single-requires c =
    let a = c.args in
    let p = c.requires in
    let C = sends.caching_bytes a.mode in
    let q = c.in-Single.is in
    let w = subst (λ (z : CacheableCommand). sends.CommandSends a.bytes.now a.src.now a.from z) q p.1 in
    let e = ap (sends.missing_with a.bytes.now a.head a.src.now a.from) q in (
      p.0,
      w,
      room-is _ _ _ _ e
          (room-second _ _ _ C (sends.missing_with a.bytes.now a.head a.src.now a.from a.cc) _ _ refl p.2
          c.write_opt_in-next.ensures),
    )

pub write_several-requires : goal.write_several-requires
write_several-requires c =
    let a = c.args in
    let p = c.requires in
    let C = sends.caching_bytes a.mode in
    let q = c.in-Multiple.is in
    let w = subst (λ (z : CacheableCommand). sends.CommandSends a.bytes.now a.src.now a.from z) q p.1 in
    let e = ap (sends.missing_with a.bytes.now a.head a.src.now a.from) q in (
      w.0,
      w.1,
      w.2,
      w.3,
      room-is _ _ _ _ e
          (room-second _ _ _ C (sends.missing_with a.bytes.now a.head a.src.now a.from a.cc) _ _ refl p.2
          c.write_opt_in-next.ensures),
    )

pub returns-in-Single : goal.returns-in-Single
returns-in-Single c =
    let a = c.args in
    let p = c.requires in
    let C = sends.caching_bytes a.mode in
    let e = ap (sends.missing_with a.bytes.now a.head a.src.now a.from) c.in-Single.is in
    wrote-both _ _ _ _ C (sends.missing_with a.bytes.now a.head a.src.now a.from a.cc) _ _ _ refl p.2
    c.write_opt_in-next.ensures
    (wrote_as _ _ _ _ _ _ e c.write_single.ensures)

pub returns-in-Multiple : goal.returns-in-Multiple
returns-in-Multiple c =
    let a = c.args in
    let p = c.requires in
    let C = sends.caching_bytes a.mode in
    let e = ap (sends.missing_with a.bytes.now a.head a.src.now a.from) c.in-Multiple.is in
    wrote-both _ _ _ _ C (sends.missing_with a.bytes.now a.head a.src.now a.from a.cc) _ _ _ refl p.2
    c.write_opt_in-next.ensures
    (wrote_as _ _ _ _ _ _ e c.write_several.ensures)
