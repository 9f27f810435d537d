-- `arena_check::entry_ok` meets its contract: one law for each path. Assumes nothing.
use mathlib.Core.Path.{sym, ◌∙◌}
use Prim.Native.Nat.{◌+◌}
use native.Mathlib.Omega.{arith}
use borrow.Author.Tests.{eq-eqb, ne_eqb}
use Rattle.resp3.specs.Ends.{is_value}
use Rattle.arena_check.proofs.Laws.{zero-read, value_read, entry-short, entry-long, entry-filled, entry-command, entry_value}
use Rattle.arena_check.proofs.entry_ok.Goals as goal

pub returns-then-end-at-lt16 : goal.returns-then-end-at-lt16
returns-then-end-at-lt16 c = let a = c.args in sym (entry-short is_value a.s.now a.end a.at (omega arith))

pub returns-then-next-end : goal.returns-then-next-end
returns-then-next-end c = let a = c.args in sym (entry-long is_value a.s.now a.end a.at (omega arith) (omega arith))

pub returns-then-read_u64-ne0 : goal.returns-then-read_u64-ne0
returns-then-read_u64-ne0 c =
    let a = c.args in
    sym (entry-filled is_value a.s.now a.end a.at (omega arith) (omega arith)
    (zero-read 8 a.s.now (a.at + 8) _ (omega arith) c.read_u64.ensures ∙ ne_eqb _ 0 c.if-read_u64-ne0.true))

pub returns-then-c-gt-MAX_COMMAND_KEY : goal.returns-then-c-gt-MAX_COMMAND_KEY
returns-then-c-gt-MAX_COMMAND_KEY c =
    let a = c.args in
    sym (entry-command is_value a.s.now a.end a.at (omega arith) (omega arith)
    (zero-read 8 a.s.now (a.at + 8) _ (omega arith) c.read_u64.ensures ∙ eq-eqb _ 0 c.if-read_u64-ne0.false) (omega arith))

pub returns : goal.returns
returns c =
    let a = c.args in
    value_read a.s.now a.at _ _ _ c.read_u32-c.ensures
    c.read_u32-v.ensures c.value_in.ensures
    ∙ sym (entry_value is_value a.s.now a.end a.at (omega arith) (omega arith)
    (zero-read 8 a.s.now (a.at + 8) _ (omega arith) c.read_u64.ensures ∙ eq-eqb _ 0
    c.if-read_u64-ne0.false) (omega arith))
