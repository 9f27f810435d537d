-- `push::by_elements` meets its contract. Assumes nothing.
use mathlib.Core.Path.{sym, ◌∙◌}
use Rattle.push.specs.Kept.{Kept}
use Rattle.push.specs.Laws.{kept_same, next-stands, one-there, elements-none, elements-other, elements-alone, elements-by}
use Rattle.push.proofs.by_elements.Goals as goal

pub returns-then-first-eq0 : goal.returns-then-first-eq0
returns-then-first-eq0 c = λ vs bk st k. kept_same _ _ _ bk k _ (elements-none _ _ bk _ vs st c.if-first-eq0.true)

pub returns-then-not-is_invalidate : goal.returns-then-not-is_invalidate
returns-then-not-is_invalidate c = λ vs bk st k.
    kept_same _ _ _ bk k _
    (elements-other _ _ bk _ vs st c.if-first-eq0.false
    (λ v us t. sym (c.is_invalidate.ensures v (c.element.ensures.value v us t)) ∙ c.if-not-is_invalidate.true))

pub returns-then-c-eq0 : goal.returns-then-c-eq0
returns-then-c-eq0 c = λ vs bk st k.
    kept_same _ _ _ bk k _
    (elements-alone _ _ bk _ vs st c.if-first-eq0.false
    (λ v us t. sym (c.is_invalidate.ensures v (c.element.ensures.value v us t))
    ∙ c.if-not-is_invalidate.false) _ c.next-c.ensures.value c.if-c-eq0.true)

pub element-requires-2 : goal.element-requires-2
element-requires-2 c =
    (next-stands _ _ _ c.if-first-eq0.false c.next-c.ensures.value
    c.requires.1).stands.inside

pub invalidate_by-requires : goal.invalidate_by-requires
invalidate_by-requires c = (
  c.requires.0,
  one-there _ _ _ c.if-c-eq0.false
      c.element-2.ensures.value
      (next-stands _ _ _ c.if-first-eq0.false c.next-c.ensures.value
      c.requires.1),
)

pub returns : goal.returns
returns c = λ vs bk st k.
    elements-by _ _ bk _ vs st c.if-first-eq0.false
    (λ v us t. sym (c.is_invalidate.ensures v
    (c.element.ensures.value v us t))
    ∙ c.if-not-is_invalidate.false) _
    c.next-c.ensures.value
    (Kept _ _ _) c.if-c-eq0.false
    (λ v us t. c.invalidate_by.ensures v bk (c.element-2.ensures.value v us t) k)
