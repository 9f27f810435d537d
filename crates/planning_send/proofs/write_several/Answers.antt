-- `write_several` meets its contract: one writer after the other. Assumes nothing.
use mathlib.Core.Path.{refl, sym}
use Rattle.format.specs.Lists.{enc_all}
use Rattle.cmd.specs.Pack.{packed}
use Rattle.planning.specs.Sent.{pttls}
use Rattle.plan_write.specs.Wrote.{wrote_as, wrote-both, room-is, room-first, room-second}
use Rattle.planning_places.specs.Pieces.{pttls-are}
use Rattle.planning_places.specs.Source.{keys_at}
use Rattle.planning_send.specs.Sends as sends
use Rattle.planning_send.proofs.write_several.Goals as goal

pub write_keys-next-requires : goal.write_keys-next-requires
write_keys-next-requires c =
    let a = c.args in
    let p = c.requires in
    let ks = keys_at a.src.now a.from a.v.keys in
    let G = sends.get_with a.bytes.now a.v a.n ks in
    let P = enc_all packed (pttls ks) in
    (p.0, p.1, p.2, p.3, room-first _ G P _ _ refl p.4)

pub write_waiting-requires : goal.write_waiting-requires
write_waiting-requires c =
    let a = c.args in
    let p = c.requires in
    let ks = keys_at a.src.now a.from a.v.keys in
    let G = sends.get_with a.bytes.now a.v a.n ks in
    let P = enc_all packed (pttls ks) in
    (p.3, room-is P _ _ _ (sym (pttls-are ks)) (room-second _ _ _ G P _ _ refl p.4 c.write_keys-next.ensures))

pub returns : goal.returns
returns c =
    let a = c.args in
    let p = c.requires in
    let ks = keys_at a.src.now a.from a.v.keys in
    let G = sends.get_with a.bytes.now a.v a.n ks in
    let P = enc_all packed (pttls ks) in
    wrote-both _ _ _ _ G P _ _ _ refl p.4 c.write_keys-next.ensures
    (wrote_as _ _ P _ _ _ (sym (pttls-are ks)) c.write_waiting.ensures)
