-- `call_record::rest_end` meets its contract. Assumes nothing.
use mathlib.Core.Path.{sym, ◌∙◌}
use Prim.Native.Nat.{◌+◌, ◌≤◌}
use Rattle.format.specs.Skips.{skip_is}
use Rattle.call_record.specs.CommandPaths as laws
use Rattle.call_record.specs.Formats.{count_fits}
use lib.ListN.{length}
use borrow.Author.Rules.{rules}
use Rattle.call_record.specs.Paths.{handed_on, argument_end, arg-inside}
use Rattle.call_record.proofs.rest_end.Goals as goal
use Rattle.call_record.proofs.rest_end.Goals.{In_ok-e}

pub returns-in_err-next : goal.returns-in_err-next
returns-in_err-next c =
    handed_on c.from_residual.result _ c.from_residual.ensures.1
    ∙ sym (laws.rest-short _ (λ i. (c.type_inv.s i).fits) _ c.requires _ (sym c.skip_end.ensures ∙ c.in_err-next.was))

pub number_end-requires : goal.number_end-requires
number_end-requires c = (skip_is _ _ _ _ (sym c.skip_end.ensures ∙ c.in_ok-next.was)).1

pub returns-in_err-e : goal.returns-in_err-e
returns-in_err-e c =
    handed_on c.from_residual-in_err-e.result _ c.from_residual-in_err-e.ensures.1
    ∙ sym (laws.rest-wrong _ (λ i. (c.type_inv.s i).fits) _ c.requires _ (sym c.skip_end.ensures ∙ c.in_ok-next.was) _
    (sym c.number_end.ensures ∙ c.in_err-e.was))

-- the count was read
inside : (c : In_ok-e) → (c.in_ok-next.next + 2 ≤ length c.args.s.now) × (c.in_ok-e.e ≤ length c.args.s.now)
inside c =
    laws.count-inside _ count_fits _ _ _ (skip_is _ _ _ _ (sym c.skip_end.ensures ∙ c.in_ok-next.was)).1
    (sym c.number_end.ensures ∙ c.in_ok-e.was)

pub read_u16-requires : goal.read_u16-requires
read_u16-requires c = (inside (goal.at.read_u16-requires c).In_ok-e).0

pub many_end-requires : goal.many_end-requires
many_end-requires c =
    let s = c.args.s.now in (
      length s,
      argument_end s,
      (inside (goal.at.many_end-requires c).In_ok-e).1,
      record { called = λ i h. search rules; found = λ i r h p. search rules; inside = arg-inside s },
    )

pub returns : goal.returns
returns c =
    let s = c.args.s.now in
    c.many_end.ensures (length s) (argument_end s) (inside (goal.at.returns c).In_ok-e).1
    (record { called = λ i h. search rules; found = λ i r h p. search rules; inside = arg-inside s })
    ∙ sym (laws.rest-go _ (λ i. (c.type_inv.s i).fits) _ c.requires _ (sym c.skip_end.ensures ∙ c.in_ok-next.was) _ _
    (sym c.number_end.ensures ∙ c.in_ok-e.was) (c.from-n.ensures ∙ c.read_u16.ensures))
