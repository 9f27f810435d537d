-- `planning_ask::reach` meets its contract. Assumes nothing.
use mathlib.Core.Path.{◌≡◌, sym, ap, subst, ◌∙◌}
use Rattle.std.specs.Prelude.{Option}
use Rattle.cursor.specs.At.{args_of}
use Rattle.cursor.specs.Index.{arg_idx, found_text, FoundIn}
use Rattle.cursor.specs.declared.Range.{Range}
use Rattle.planning_ask.specs.Reaching as laws
use Rattle.planning_ask.proofs.reach.Goals as goal

pub returns-then-flags-eq1 : goal.returns-then-flags-eq1
returns-then-flags-eq1 c = (sym (laws.reach-skipped _ _ c.if-flags-eq1.true), tt)

pub returns-in-Some : goal.returns-in-Some
returns-in-Some c =
    let a = c.args in
    let e = subst (λ (r : Option Range). (found_text a.bytes.now r ≡ arg_idx (args_of a.bytes.now a.head.args) 0) × FoundIn a.bytes.now r)
    c.in-Some.is c.arg_idx.ensures in (
      ap laws.by_text e.0 ∙ sym
          (laws.reach-name _ _ c.if-flags-eq1.false
          (sym c.takes_part.ensures ∙ c.if-takes_part.true)),
      e.1,
    )

pub returns-in-None : goal.returns-in-None
returns-in-None c =
    let a = c.args in
    let e = subst (λ (r : Option Range). (found_text a.bytes.now r ≡ arg_idx (args_of a.bytes.now a.head.args) 0) × FoundIn a.bytes.now r)
    c.in-None.is c.arg_idx.ensures in (
      ap laws.by_text e.0 ∙ sym
          (laws.reach-name _ _ c.if-flags-eq1.false
          (sym c.takes_part.ensures ∙ c.if-takes_part.true)),
      tt,
    )

pub returns-else-takes_part : goal.returns-else-takes_part
returns-else-takes_part c = (sym (laws.reach-stopped _ _ c.if-flags-eq1.false (sym c.takes_part.ensures ∙ c.if-takes_part.false)), tt)
