-- `trap_send::send_record` meets its contract. Assumes nothing.
use mathlib.Core.Path.{sym, ap, ◌∙◌}
use Rattle.std.specs.Prelude.{Option, is_none, ℕ}
use Rattle.cursor.specs.At.{commands_of}
use Rattle.cache_manager.specs.Fit.{fit}
use Rattle.trap_send.specs.Walk.{ends-within}
use Rattle.trap_send.specs.Laws as laws
use Rattle.trap_send.proofs.send_record.Goals as goal

pub commands_of-k-requires : goal.commands_of-k-requires
commands_of-k-requires c = (fit _ c.requires.2).room

pub any_late-requires : goal.any_late-requires
any_late-requires c =
    let w = c.requires in
    let a = c.args in
    laws.here a.bytes.now a.out.now a.arena.now a.g _ c.commands_of-k.ensures (fit a.bytes.now w.2)

pub returns-then-any_late : goal.returns-then-any_late
returns-then-any_late c =
    let a = c.args in (
      λ rows n next o. laws.record-late a.bytes.now a.out.now a.arena.now a.g _ c.commands_of-k.ensures rows n next
          (sym c.any_late.ensures ∙ c.if-any_late.true),
      tt,
    )

pub is_transaction-transaction-requires : goal.is_transaction-transaction-requires
is_transaction-transaction-requires c = (fit _ c.requires.2).room

pub send_room-requires : goal.send_room-requires
send_room-requires c =
    let w = c.requires in
    let a = c.args in (
      laws.ahead a.bytes.now a.out.now a.arena.now a.g _ c.commands_of-k.ensures
          (fit a.bytes.now w.2) (sym c.any_late.ensures ∙ c.if-any_late.false),
      w.1,
      w.0,
    )

pub returns-in_err-send_room : goal.returns-in_err-send_room
returns-in_err-send_room c =
    let a = c.args in
    rw c.from_residual.ensures (
      λ rows n next o. laws.record-short a.bytes.now a.out.now a.arena.now a.g _
          c.commands_of-k.ensures rows n next _
          c.is_transaction-transaction.ensures
          (sym c.any_late.ensures ∙ c.if-any_late.false)
          (sym (laws.room_says a.out.now a.arena.now a.g _ (commands_of a.bytes.now _) _ _ _ c.wrap_len.ensures
          c.spend-room.ensures c.send_room.ensures rows o) ∙ ap (λ (r : Option ℕ). is_none r) c.in_err-send_room.was),
      tt,
    )

pub write_pipeline-requires : goal.write_pipeline-requires
write_pipeline-requires c =
    let w = c.requires in
    let a = c.args in (
      laws.ahead a.bytes.now a.out.now a.arena.now a.g _
          c.commands_of-k.ensures (fit a.bytes.now w.2)
          (sym c.any_late.ensures
          ∙ c.if-any_late.false),
      w.1,
      w.0,
      laws.room_fits a.out.now a.arena.now a.g _
          (commands_of a.bytes.now _) _ _ _ c.wrap_len.ensures c.spend-room.ensures
          c.send_room.ensures (ap (λ (r : Option ℕ). is_none r) c.in_ok-send_room.was),
      w.3,
    )

pub returns : goal.returns
returns c =
    let w = c.requires in
    let a = c.args in
    let z = c.write_pipeline.ensures in (
      λ rows n next o. laws.record-done a.bytes.now a.out.now a.arena.now a.g _
          c.commands_of-k.ensures rows n next _
          c.is_transaction-transaction.ensures
          (sym c.any_late.ensures
          ∙ c.if-any_late.false)
          (sym (laws.room_says a.out.now a.arena.now a.g _ (commands_of a.bytes.now _) _ _ _
          c.wrap_len.ensures c.spend-room.ensures
          c.send_room.ensures rows o) ∙ ap (λ (r : Option ℕ). is_none r) c.in_ok-send_room.was) _ _ (z rows o),
      ends-within
          a.g a.arena.now 0 0 _ (commands_of a.bytes.now _) a.out.now
          (laws.room_fits a.out.now a.arena.now a.g _ (commands_of a.bytes.now _) _ _ _
          c.wrap_len.ensures c.spend-room.ensures
          c.send_room.ensures (ap (λ (r : Option ℕ). is_none r) c.in_ok-send_room.was)) w.0 _ _ z,
    )
