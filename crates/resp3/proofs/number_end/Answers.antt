use mathlib.Core.Path.{sym, ◌∙◌}
use Rattle.resp3.specs.Paths as paths
use borrow.Author.Tests.{eq-eqb, ne_eqb}
use Rattle.resp3.proofs.number_end.Goals as goal

pub returns-then-at-s : goal.returns-then-at-s
returns-then-at-s c = sym (paths.int-out _ _ c.if-at-s.true)

pub returns-in_err-n : goal.returns-in_err-n
returns-in_err-n c = c.from_residual.ensures ∙ sym (paths.int-neg _ _ _ c.if-s-at-eq45.true (sym c.read_num.ensures ∙ c.in_err-n.was))

pub returns-then-n-eq0 : goal.returns-then-n-eq0
returns-then-n-eq0 c =
    sym (paths.int-neg _ _ _ c.if-s-at-eq45.true
    (sym c.read_num.ensures ∙ c.in_ok-n.was) ∙ rw (eq-eqb _ _ c.if-n-eq0.true))

pub returns-then-s-at-eq45 : goal.returns-then-s-at-eq45
returns-then-s-at-eq45 c =
    sym (paths.int-neg _ _ _ c.if-s-at-eq45.true
    (sym c.read_num.ensures ∙ c.in_ok-n.was) ∙ rw (ne_eqb _ _ c.if-n-eq0.false))

pub returns-in_err-e : goal.returns-in_err-e
returns-in_err-e c = c.from_residual-in_err-e.ensures ∙ sym (paths.int-pos _ _ _ c.if-s-at-eq45.false (sym c.read_num-2.ensures ∙ c.in_err-e.was))

pub returns : goal.returns
returns c =
    sym (paths.int-pos _ _ _ c.if-s-at-eq45.false (sym c.read_num-2.ensures ∙ c.in_ok-e.was))
