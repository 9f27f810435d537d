-- `call_record::ttl_end` meets its contract. Assumes nothing.
use mathlib.Core.Path.{sym, ap, ◌∙◌}
use Rattle.call_record.specs.CommandPaths as laws
use Rattle.call_record.proofs.ttl_end.Goals as goal

pub returns-then-present : goal.returns-then-present
returns-then-present c =
    c.skip_end.ensures ∙ sym (laws.ttl-skip _ (λ i. (c.type_inv.s i).fits) _ c.requires)
    ∙ ap (λ b. laws.ttl_end b c.args.s.now c.args.at) (sym c.if-present.true)

pub returns : goal.returns
returns c =
    c.number_end.ensures ∙ sym (laws.ttl-zeros _ _) ∙ ap (λ b. laws.ttl_end b c.args.s.now c.args.at) (sym c.if-present.false)
