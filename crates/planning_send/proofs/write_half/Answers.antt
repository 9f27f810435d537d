-- `write_half` meets its contract, by which of the two it is. Assumes nothing.
use mathlib.Core.Path.{sym, ap, ◌∙◌}
use Rattle.buffer.specs.Same.{Bytes}
use Rattle.cmd.specs.Pack.{packed, pttl_texts}
use Rattle.plan_write.specs.Wrote.{wrote-is, room-is}
use Rattle.planning_send.specs.Sends as sends
use Rattle.planning_send.proofs.write_half.Goals as goal

pub write_pttl-requires : goal.write_pttl-requires
write_pttl-requires c =
    let a = c.args in
    room-is _ _ _ _ (sends.half-pttl a.bytes.now a.head a.key _ c.in-Pttl.is
    ∙ ap (λ (z : Bytes). packed (pttl_texts z)) (sym c.bytes_in-text.ensures))
    c.requires.2

pub write_command-requires : goal.write_command-requires
write_command-requires c =
    let a = c.args in (
      c.requires.0,
      room-is _ _ _ _
          (sends.half-own a.bytes.now a.head a.key _ c.in-Own.is)
          c.requires.2,
    )

pub returns-in-Pttl : goal.returns-in-Pttl
returns-in-Pttl c =
    let a = c.args in
    wrote-is _ _ _ _ _ _
    (sends.half-pttl a.bytes.now a.head a.key _ c.in-Pttl.is
    ∙ ap (λ (z : Bytes). packed (pttl_texts z)) (sym c.bytes_in-text.ensures))
    c.write_pttl.ensures

pub returns-in-Own : goal.returns-in-Own
returns-in-Own c =
    let a = c.args in
    wrote-is _ _ _ _ _ _ (sends.half-own a.bytes.now a.head a.key _ c.in-Own.is)
    c.write_command.ensures
