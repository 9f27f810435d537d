-- `resp3_element::stand` meets its contract. Assumes nothing.
use mathlib.Core.Path.{sym, ap, ◌∙◌}
use Prim.Native.Nat.{ℕ}
use Rattle.resp3_element.specs.Paths as paths
use Rattle.resp3_element.proofs.stand.Goals as goal

pub returns-then-left-eq0 : goal.returns-then-left-eq0
returns-then-left-eq0 c = sym (paths.stand-none _ _ _ c.if-left-eq0.true)

pub returns : goal.returns
returns c =
    ap (λ (e : ℕ). record { at = c.args.at; end = e; left = c.args.left }) (c.unwrap_or-end.ensures ∙ sym (paths.end-or c.args.at c.value_end.result))
    ∙ sym (paths.stand-some _ _ _ _ c.if-left-eq0.false (sym c.value_end.ensures))
