-- `commands::is_multi_key` meets its contract. Assumes nothing.
use mathlib.Core.Path.{sym, ◌∙◌}
use Rattle.commands.specs.MultiKey.{multi_key}
use Rattle.commands.proofs.Agrees.{agrees}
use Rattle.commands.proofs.is_multi_key.Goals as goal

pub returns-then-same : goal.returns-then-same
unfolding multi_key
returns-then-same c = rw (sym (agrees _ _ _ c.same.ensures) ∙ c.if-same.true)

pub returns-then-same-2 : goal.returns-then-same-2
unfolding multi_key
returns-then-same-2 c =
    rw (sym (agrees _ _ _ c.same.ensures) ∙ c.if-same.false, sym (agrees _ _ _ c.same-2.ensures) ∙ c.if-same-2.true)

pub returns : goal.returns
unfolding multi_key
returns c =
    rw (sym (agrees _ _ _ c.same.ensures) ∙ c.if-same.false, sym (agrees _ _ _ c.same-2.ensures) ∙ c.if-same-2.false)
