-- `planning_ask::ask_one` meets its contract. Assumes nothing.
use mathlib.Core.Path.{◌≡◌, sym, ap, subst, ◌∙◌}
use Rattle.std.specs.Prelude.{Option}
use Rattle.cursor.specs.At.{args_of}
use Rattle.cursor.specs.Index.{Text, arg_idx, found_text, FoundIn}
use Rattle.cursor.specs.declared.Range.{Range}
use Rattle.planning_ask.specs.Simple as laws
use Rattle.planning_ask.proofs.ask_one.Goals as goal

pub returns-in-Some : goal.returns-in-Some
returns-in-Some c =
    let a = c.args in
    let e = subst (λ (r : Option Range). (found_text a.bytes.now r ≡ arg_idx (args_of a.bytes.now a.k) 1) × FoundIn a.bytes.now r)
    c.in-Some.is c.arg_idx.ensures in
    (ap (λ (t : Text). laws.one_by t a.expiry) e.0 ∙ sym (laws.by_key _ _ c.requires.1), e.1)

pub returns-in-None : goal.returns-in-None
returns-in-None c =
    let a = c.args in
    let e = subst (λ (r : Option Range). (found_text a.bytes.now r ≡ arg_idx (args_of a.bytes.now a.k) 1) × FoundIn a.bytes.now r)
    c.in-None.is c.arg_idx.ensures in
    (ap (λ (t : Text). laws.one_by t a.expiry) e.0 ∙ sym (laws.by_key _ _ c.requires.1), tt)
