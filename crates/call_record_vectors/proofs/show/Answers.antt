-- `call_record_vectors::show` is safe: what the check finds fine is a record (`record-here`). Assumes nothing.
use mathlib.Core.Path.{sym, subst, ◌∙◌}
use Rattle.cursor.specs.At.{CommandsHere}
use Rattle.cursor.specs.declared.Commands.{Commands}
use Rattle.call_record_vectors.specs.Walk.{record-here}
use Rattle.call_record_vectors.proofs.show.Goals as goal

pub commands_of-k-requires : goal.commands_of-k-requires
commands_of-k-requires g c = (record-here _ (sym c.check.ensures ∙ c.in-Ok.is)).0

pub is_transaction-requires : goal.is_transaction-requires
is_transaction-requires g c =
    (record-here _ (sym c.check.ensures ∙ c.in-Ok.is)).0

pub put_commands-requires : goal.put_commands-requires
put_commands-requires g c =
    subst (λ (k : Commands). CommandsHere c.args.s.now k) (sym c.commands_of-k.ensures)
    (record-here _ (sym c.check.ensures ∙ c.in-Ok.is)).1
