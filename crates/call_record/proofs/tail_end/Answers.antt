-- `call_record::tail_end` meets its contract. Assumes nothing.
use mathlib.Core.Path.{sym, ◌∙◌}
use Prim.Native.Nat.{◌+◌, ◌≤◌}
use lib.ListN.{length}
use borrow.Author.Rules.{rules}
use native.Mathlib.Omega.{arith}
use Rattle.call_record.specs.CommandPaths as laws
use Rattle.call_record.specs.Formats.{count_fits}
use Rattle.call_record.specs.Paths.{handed_on, byte-is}
use Rattle.call_record.proofs.tail_end.Goals as goal
use Rattle.call_record.proofs.tail_end.Goals.{In_ok-e}

pub returns-in_err-flags : goal.returns-in_err-flags
returns-in_err-flags c =
    handed_on c.from_residual.result _ c.from_residual.ensures.1
    ∙ sym (laws.tail-out _ _ _ (sym c.byte_at.ensures ∙ c.in_err-flags.was))

pub returns-then-flags-ge2 : goal.returns-then-flags-ge2
returns-then-flags-ge2 c = sym (laws.tail-flags _ _ _ (sym c.byte_at.ensures ∙ c.in_ok-flags.was) c.if-flags-ge2.true)

pub number_end-requires : goal.number_end-requires
number_end-requires c = let z = (byte-is _ _ _ (sym c.byte_at.ensures ∙ c.in_ok-flags.was)).0 in omega arith

pub returns-in_err-e : goal.returns-in_err-e
returns-in_err-e c =
    handed_on c.from_residual-in_err-e.result _ c.from_residual-in_err-e.ensures.1
    ∙ sym (laws.tail-count _ _ _ (sym c.byte_at.ensures ∙ c.in_ok-flags.was) _ c.if-flags-ge2.false
    (sym c.number_end.ensures ∙ c.in_err-e.was))

-- the count was read
inside : (c : In_ok-e) → (c.args.at + 3 ≤ length c.args.s.now) × (c.in_ok-e.e ≤ length c.args.s.now)
inside c =
    let z = (byte-is _ _ _ (sym c.byte_at.ensures ∙ c.in_ok-flags.was)).0 in
    let i = laws.count-inside _ count_fits _ _ _ (omega arith) (sym c.number_end.ensures ∙ c.in_ok-e.was) in
    let l = i.0 in
    (omega arith, i.1)

pub read_u16-requires : goal.read_u16-requires
read_u16-requires c = let i = (inside (goal.at.read_u16-requires c).In_ok-e).0 in omega arith

pub many_end-requires : goal.many_end-requires
many_end-requires c =
    let s = c.args.s.now in (
      length s,
      laws.command_end s,
      (inside (goal.at.many_end-requires c).In_ok-e).1,
      record { called = λ i h. search rules; found = λ i r h p. search rules; inside = laws.command-inside s },
    )

pub returns : goal.returns
returns c =
    let s = c.args.s.now in
    c.many_end.ensures (length s) (laws.command_end s) (inside (goal.at.returns c).In_ok-e).1
    (record { called = λ i h. search rules; found = λ i r h p. search rules; inside = laws.command-inside s })
    ∙ sym (laws.tail-go _ _ _ (sym c.byte_at.ensures ∙ c.in_ok-flags.was) _ _ c.if-flags-ge2.false
    (sym c.number_end.ensures ∙ c.in_ok-e.was) (c.from-n.ensures ∙ c.read_u16.ensures))
