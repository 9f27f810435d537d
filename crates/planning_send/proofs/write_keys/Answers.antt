-- `write_keys` meets its contract: one writer after the other. Assumes nothing.
use mathlib.Core.Path.{refl, sym}
use mathlib.Core.List.{◌++◌}
use Rattle.cmd.specs.Pack.{blob_bytes}
use Rattle.plan_write.specs.Wrote.{wrote_as, wrote-both, room-is, room-first, room-second}
use Rattle.planning_ask.specs.Asked.{path_in}
use Rattle.planning_places.specs.Pieces.{keys-are}
use Rattle.planning_places.specs.Source.{keys_at}
use Rattle.planning_send.specs.Sends as sends
use Rattle.planning_send.proofs.write_keys.Goals as goal

pub write_get-first-requires : goal.write_get-first-requires
write_get-first-requires c =
    let a = c.args in
    let p = c.requires in
    let N = sends.get_name a.v.json a.n in
    let ks = keys_at a.src.now a.from a.v.keys in
    let K = blob_bytes ks in
    let P = blob_bytes (path_in a.bytes.now a.v) in
    (p.2, room-first _ N (K ++ P) _ _ refl p.4)

pub write_waiting-next-requires : goal.write_waiting-next-requires
write_waiting-next-requires c =
    let a = c.args in
    let p = c.requires in
    let N = sends.get_name a.v.json a.n in
    let ks = keys_at a.src.now a.from a.v.keys in
    let K = blob_bytes ks in
    let P = blob_bytes (path_in a.bytes.now a.v) in (
      p.3,
      room-is K _ _ _ (sym (keys-are ks))
          (room-first _ K P _ _ refl (room-second _ _ _ N (K ++ P) _ _ refl p.4 c.write_get-first.ensures)),
    )

pub write_path-requires : goal.write_path-requires
write_path-requires c =
    let a = c.args in
    let p = c.requires in
    let N = sends.get_name a.v.json a.n in
    let ks = keys_at a.src.now a.from a.v.keys in
    let K = blob_bytes ks in
    let P = blob_bytes (path_in a.bytes.now a.v) in (
      p.0,
      p.1,
      room-second _ _ _ K P _ _ refl
          (room-second _ _ _ N (K ++ P) _ _ refl p.4 c.write_get-first.ensures)
          (wrote_as _ _ K _ _ _ (sym (keys-are ks)) c.write_waiting-next.ensures),
    )

pub returns : goal.returns
returns c =
    let a = c.args in
    let p = c.requires in
    let N = sends.get_name a.v.json a.n in
    let ks = keys_at a.src.now a.from a.v.keys in
    let K = blob_bytes ks in
    let P = blob_bytes (path_in a.bytes.now a.v) in
    let g = c.write_get-first.ensures in
    wrote-both _ _ _ _ N (K ++ P) _ _ _ refl p.4 g
    (wrote-both _ _ _ _ K P _ _ _ refl (room-second _ _ _ N (K ++ P) _ _ refl p.4 g)
    (wrote_as _ _ K _ _ _ (sym (keys-are ks)) c.write_waiting-next.ensures)
    c.write_path.ensures)
