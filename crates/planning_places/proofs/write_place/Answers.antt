-- `write_place` meets its contract, by what is written of a key. Assumes nothing.
use mathlib.Core.Path.{sym, ap, ◌∙◌}
use Rattle.buffer.specs.Same.{Bytes}
use Rattle.cmd.specs.Pack.{packed, blob, pttl_texts}
use Rattle.plan_write.specs.Wrote.{wrote-is, wrote_none, room-is}
use Rattle.planning_places.specs.Source as laws
use Rattle.planning_places.proofs.write_place.Goals as goal

pub returns-in_default : goal.returns-in_default
returns-in_default c = let a = c.args in wrote_none _ _ _ (laws.piece-served a.what a.src.now a.key c.in_default.is)

pub bytes_in-text-requires : goal.bytes_in-text-requires
bytes_in-text-requires c = rw c.in-Some.is at c.requires.0

pub write_blob-requires : goal.write_blob-requires
write_blob-requires c =
    let a = c.args in
    room-is _ _ _ _ (laws.piece-key a.what a.src.now a.key _ c.in-Some.is c.in-Key.is ∙ ap blob (sym c.bytes_in-text.ensures)) c.requires.1

pub write_pttl-requires : goal.write_pttl-requires
write_pttl-requires c =
    let a = c.args in
    room-is _ _ _ _ (laws.piece-pttl a.what a.src.now a.key _ c.in-Some.is c.in-Pttl.is
    ∙ ap (λ (z : Bytes). packed (pttl_texts z)) (sym c.bytes_in-text.ensures))
    c.requires.1

pub returns-in-Key : goal.returns-in-Key
returns-in-Key c =
    let a = c.args in
    wrote-is _ _ _ _ _ _
    (laws.piece-key a.what a.src.now a.key _ c.in-Some.is c.in-Key.is ∙ ap blob (sym c.bytes_in-text.ensures))
    c.write_blob.ensures

pub returns-in-Pttl : goal.returns-in-Pttl
returns-in-Pttl c =
    let a = c.args in
    wrote-is _ _ _ _ _ _
    (laws.piece-pttl a.what a.src.now a.key _ c.in-Some.is c.in-Pttl.is
    ∙ ap (λ (z : Bytes). packed (pttl_texts z)) (sym c.bytes_in-text.ensures))
    c.write_pttl.ensures
