-- `resp3_element::range_at` meets its contract. Assumes nothing.
use mathlib.Core.Path.{sym, ◌∙◌}
use native.Mathlib.Omega.{arith}
use Rattle.resp3.specs.Paths.{length-bounds}
use Rattle.resp3_element.specs.Paths as paths
use Rattle.resp3_element.proofs.range_at.Goals as goal

pub returns-then-first_byte-ne36 : goal.returns-then-first_byte-ne36
returns-then-first_byte-ne36 c = sym (paths.range-no _ (λ z. c.if-first_byte-ne36.true (c.first_byte.ensures ∙ z)))

pub returns-in_default : goal.returns-in_default
returns-in_default c =
    sym (paths.range-is _ _ (sym c.first_byte.ensures ∙ c.if-first_byte-ne36.false) (sym c.length_at.ensures ∙ c.in_default.is))

pub overflow_sub-s : goal.overflow_sub-s
overflow_sub-s c = let k = length-bounds _ _ _ _ (sym c.length_at.ensures ∙ c.in-Some.is) in omega arith

pub returns-then-n-s : goal.returns-then-n-s
returns-then-n-s c =
    sym (paths.range-is _ _ (sym c.first_byte.ensures ∙ c.if-first_byte-ne36.false)
    (sym c.length_at.ensures ∙ c.in-Some.is) ∙ paths.range-past _ _ _ c.if-n-s.true)

pub returns : goal.returns
returns c =
    sym (paths.range-is _ _ (sym c.first_byte.ensures ∙ c.if-first_byte-ne36.false)
    (sym c.length_at.ensures ∙ c.in-Some.is) ∙ paths.range-in _ _ _ c.if-n-s.false)
